use Rattle.std.proofs.Common.{rules, ◌<◌, ◌≡◌, ◌≤◌, ◌+◌, ◌++◌, length, min, ap, ◌∙◌, arith, length-append}
use Rattle.std.specs.Slice.Iter.{chunks_rest}
use Rattle.tape_records.specs.Lemmas.Writing.{less_left}
use Rattle.tape_records.specs.Grammar.{newline}
use Rattle.tape_paper.specs.Grammar.{record_text}
use Rattle.tape_punching.specs.Lemmas.Punching.{chunk_more, tape_none}
use Rattle.tape_punching.proofs.put_tape.Goals as goal

pub loop-record-preserved : goal.loop-record-preserved
loop-record-preserved c =
    let i = c.loop-record.invariant in
    let rest = chunks_rest c.loop-record.record-iterator in
    let chunk = c.in-Some.record.now in
    let left = chunks_rest c.next.new.self in
    let steps = c.in-Some.ensures.steps in
    let parts : rest ≡ chunk ++ left = steps.1.0 in
    let size : length chunk ≡ min 24 (length rest) = rw i.2 at steps.1.1 in
    let some : 0 < length rest = steps.1.2 in
    let sum : length rest ≡ length chunk + length left = ap length parts ∙ length-append chunk left in (
      search rules,
      tt,
      steps.0 ∙ i.2,
      omega (arith, sum, i.3),
      omega (arith, size, some, i.5 some),
      (λ h. omega (arith, sum, size, some, h, i.5 some)),
      less_left {s = record_text c.loop-record.address chunk ++ newline}
          i.6
          (chunk_more c.loop-record.records c.loop-record.address rest chunk left parts size some)
          c.put_record.ensures,
    )

pub returns : goal.returns
returns c =
    let rest = chunks_rest c.loop-record.record-iterator in
    let none : length rest ≤ 0 = omega (arith, c.in-None.ensures.steps.1.0) in
    c.loop-record.invariant.6 _ (rw (tape_none c.loop-record.records c.loop-record.address rest none) c.put_end.ensures)
