-- One law for each way out. The length of the text is what its first writing answers.
use Rattle.std.proofs.Common.{rules, arith}
use Rattle.text_writing.specs.Lemmas.Delivered.{all_written, no_room_lem}
use Rattle.tape_records.specs.Lemmas.Writing.{from_start}
use Rattle.tape_punching.specs.Punching.{tape_from}
use Rattle.tape_punching.specs.Lemmas.Outcomes.{to_the_last, text_length, not_full, backwards, in_order_lem}
use Rattle.tape_punching.proofs.punch.Goals as goal

pub returns-then-memory-ne-FULL_MEMORY-clause-text_after : goal.returns-then-memory-ne-FULL_MEMORY-clause-text_after
returns-then-memory-ne-FULL_MEMORY-clause-text_after c = not_full _ _ _ _ c.if-memory-ne-FULL_MEMORY.true

pub returns-then-last-first-clause-text_after : goal.returns-then-last-first-clause-text_after
returns-then-last-first-clause-text_after c = backwards _ _ _ _ c.if-memory-ne-FULL_MEMORY.false c.if-last-first.true

pub returns-then-text-place-clause-text_after : goal.returns-then-text-place-clause-text_after
returns-then-text-place-clause-text_after c =
    let m = c.args.memory.now in
    let first = c.args.first in
    let last = c.args.last in
    let measured = to_the_last m first last c.if-last-first.false c.put_tape.ensures in
    let short = text_length m first last c.if-memory-ne-FULL_MEMORY.false (omega arith) in
    in_order_lem _ _ _ _ c.if-memory-ne-FULL_MEMORY.false c.if-last-first.false
    (no_room_lem (tape_from m first last) _ (omega (arith, c.place.ensures, c.new-measure.ensures.begins, measured.wrote.ends, short, c.if-text-place.true)))

pub returns-clause-text_after : goal.returns-clause-text_after
returns-clause-text_after c =
    let m = c.args.memory.now in
    let first = c.args.first in
    let last = c.args.last in
    let measured = to_the_last m first last c.if-last-first.false c.put_tape.ensures in
    let short = text_length m first last c.if-memory-ne-FULL_MEMORY.false (omega arith) in
    let written = to_the_last m first last c.if-last-first.false c.put_tape-2.ensures in
    in_order_lem _ _ _ _ c.if-memory-ne-FULL_MEMORY.false c.if-last-first.false
    (all_written (tape_from m first last) _ (omega (arith, c.place.ensures, c.new-measure.ensures.begins, measured.wrote.ends, short, c.if-text-place.false))
    (from_start c.new-written.ensures.same_bytes c.new-written.ensures.begins written c.place-2.ensures (search rules)))
