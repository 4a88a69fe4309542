use Rattle.std.proofs.Common.{◌≡◌, Ok, length, ap, ◌∙◌, arith}
use Rattle.std.specs.Option.{unwrap_or}
use Rattle.laws.specs.Answers.{answer_of}
use Rattle.tape_records.specs.Inner.Items.{told_in}
use Rattle.tape_rescuing.specs.Lemmas.Worth.{saved_end, saved_other, saved_mark}
use Rattle.tape_rescuing.specs.Lemmas.Passing.{on, one_kept, one_dropped, all_kept, all_dropped, is_bad_lem, is_end, is_data}
use Rattle.tape_rescuing.proofs.put_saved.Goals as goal
use Rattle.tape_rescuing.proofs.put_saved.Goals.{in-Ok-Data, in-Ok-End, in-Err}

pub loop-at-preserved-then-text-at-ne59 : goal.loop-at-preserved-then-text-at-ne59
loop-at-preserved-then-text-at-ne59 c =
    let i = c.loop-at.invariant in
    (omega arith, omega arith, on i.2 (saved_other c.args.text.now c.loop-at.at (omega arith) c.if-text-at-ne59.true))

pub put_kept-requires : goal.put_kept-requires
put_kept-requires c =
    let kept = is_data c.args.text.now c.loop-at.at c.rest-record.ensures c.read_worth.ensures (ap told_in (c.in-Ok-Data.is ∙ ap Ok c.in-Ok-Data.field-0-is)) in
    omega (arith, c.size.ensures, kept.3)

pub loop-at-preserved : goal.loop-at-preserved
loop-at-preserved c =
    let text = c.args.text.now in
    let i = c.loop-at.invariant in
    let mark = saved_mark text c.loop-at.at (omega arith) c.if-text-at-ne59.false in
    elim c.match-read_worth.branch [
      | in-Ok-Data w ↦
          let kept = is_data text c.loop-at.at c.rest-record.ensures c.read_worth.ensures (ap told_in (w.in-Ok-Data.is ∙ ap Ok w.in-Ok-Data.field-0-is)) in
          rw (w.out-is, w.kept-is, w.dropped-is, w.first-is)
          (omega arith, omega arith, one_kept i.2 c.loop-at.at kept.0 (mark ∙ rw kept.1) (rw (w.size.ensures, kept.2) at w.put_kept.ensures))
      | in-Ok-End w ↦
          rw (w.out-is, w.kept-is, w.dropped-is, w.first-is)
          (omega arith, omega arith, on i.2 (mark ∙ rw (is_end text c.loop-at.at c.rest-record.ensures c.read_worth.ensures (ap told_in (w.in-Ok-End.is ∙ ap Ok w.in-Ok-End.field-0-is)))))
      | in-Err w ↦
          rw (w.out-is, w.kept-is, w.dropped-is, w.first-is, w.or-first.ensures) (
            omega arith,
            omega arith,
            one_dropped i.2 c.loop-at.at (answer_of w.in-Err.field-0) (mark ∙ rw (is_bad_lem text c.loop-at.at c.rest-record.ensures c.read_worth.ensures (ap told_in w.in-Err.is))),
          )
    ]

pub returns-then-kept-le65535 : goal.returns-then-kept-le65535
returns-then-kept-le65535 c =
    let end : length c.args.text.now ≡ c.loop-at.at = omega arith in
    let done = on c.loop-at.invariant.2 (saved_end c.args.text.now c.loop-at.at (omega arith)) in
    record {
      keeps = all_kept done;
      drops = all_dropped done;
      begins = c.unwrap_or-first.ensures ∙ ap (unwrap_or c.loop-at.first) end ∙ done.begins;
      writes = λ h. done.writes _ c.put_end.ensures;
    }
