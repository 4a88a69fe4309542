use Rattle.std.proofs.Common.{Ok, refl, ap, ◌∙◌, arith}
use Rattle.std.proofs.lemmas.Result.{err_from_is_err_and}
use Rattle.tape_loading.specs.Inner.Following.{next_in}
use Rattle.tape_loading.specs.Lemmas.Going.{stops, comes}
use Rattle.tape_moving.specs.Lemmas.Passing.{at_stop, line_moved, few_moved, bad_passed, good_passed}
use Rattle.tape_moving.proofs.put_records.Goals as goal

pub returns-in_err-reach : goal.returns-in_err-reach
returns-in_err-reach c =
    let exit = err_from_is_err_and c.from_residual.result c.from_residual.ensures.1 in
    rw (exit.1, exit.2) (bad_passed _ (at_stop c.loop-reach.invariant.2
    (stops c.args.from c.args.text.now c.loop-reach.at c.loop-reach.before (omega arith) c.next_record.ensures (ap next_in c.in_err-reach.was))))

pub overflow_cast-before : goal.overflow_cast-before
overflow_cast-before c =
    let stopped = at_stop c.loop-reach.invariant.2
    (stops c.args.from c.args.text.now c.loop-reach.at c.loop-reach.before (omega arith) c.next_record.ensures (ap next_in (c.in_ok-reach.was ∙ ap Ok c.in-End.is))) in
    omega (arith, few_moved c.args.from c.args.text.now stopped refl)

pub returns-in-End : goal.returns-in-End
returns-in-End c =
    good_passed c.in-End.reach (at_stop c.loop-reach.invariant.2
    (stops c.args.from c.args.text.now c.loop-reach.at c.loop-reach.before (omega arith) c.next_record.ensures (ap next_in (c.in_ok-reach.was ∙ ap Ok c.in-End.is))))
    c.put_last.ensures

pub move_record-requires : goal.move_record-requires
move_record-requires c =
    let next = comes c.args.from c.args.text.now c.loop-reach.at c.loop-reach.before (omega arith) c.next_record.ensures (ap next_in (c.in_ok-reach.was ∙ ap Ok c.in-Data.is)) in
    (next.marked, next.room)

pub loop-reach-smaller : goal.loop-reach-smaller
loop-reach-smaller c =
    let next = comes c.args.from c.args.text.now c.loop-reach.at c.loop-reach.before (omega arith) c.next_record.ensures (ap next_in (c.in_ok-reach.was ∙ ap Ok c.in-Data.is)) in
    omega (arith, next.further, next.inside)

pub loop-reach-preserved : goal.loop-reach-preserved
loop-reach-preserved c =
    let next = comes c.args.from c.args.text.now c.loop-reach.at c.loop-reach.before (omega arith) c.next_record.ensures (ap next_in (c.in_ok-reach.was ∙ ap Ok c.in-Data.is)) in (
      omega (arith, next.inside),
      omega (arith, next.further),
      line_moved c.loop-reach.invariant.2 next c.move_record.ensures,
    )
