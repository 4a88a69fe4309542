use Rattle.std.proofs.Common.{Ok, refl, sym, ap, ◌∙◌, arith}
use Rattle.std.proofs.lemmas.Result.{err_from_is_err_and}
use Rattle.tape_loading.specs.Inner.Following.{next_in}
use Rattle.tape_loading.specs.Lemmas.Going.{stops, comes, lay_stop, lay_data}
use Rattle.tape_loading.proofs.lay.Goals as goal

pub loop-reach-init : goal.loop-reach-init
loop-reach-init c = (omega arith, omega arith, refl, refl)

pub shape_of-memory-in-End : goal.shape_of-memory-in-End
shape_of-memory-in-End c = c.loop-reach.invariant.2

pub returns-in-End : goal.returns-in-End
returns-in-End c =
    let args = c.args in
    let text = c.args.text.now in
    sym (lay_stop args.format text c.loop-reach.at c.loop-reach.before c.loop-reach.memory
    (stops args.format text c.loop-reach.at c.loop-reach.before (omega arith) c.next_record.ensures (ap next_in (c.in_ok-reach.was ∙ ap Ok c.in-End.is))))
    ∙ c.loop-reach.invariant.3

pub returns-in_err-reach : goal.returns-in_err-reach
returns-in_err-reach c =
    let args = c.args in
    let text = c.args.text.now in
    let exit = err_from_is_err_and c.from_residual.result c.from_residual.ensures.1 in
    rw (exit.1, exit.2)
    (sym (lay_stop args.format text c.loop-reach.at c.loop-reach.before c.loop-reach.memory
    (stops args.format text c.loop-reach.at c.loop-reach.before (omega arith) c.next_record.ensures (ap next_in c.in_err-reach.was)))
    ∙ c.loop-reach.invariant.3)

pub overflow_add-before : goal.overflow_add-before
overflow_add-before c =
    let next = comes c.args.format c.args.text.now c.loop-reach.at c.loop-reach.before (omega arith) c.next_record.ensures (ap next_in (c.in_ok-reach.was ∙ ap Ok c.in-Data.is)) in
    omega (arith, next.further, next.inside)

pub loop-reach-smaller : goal.loop-reach-smaller
loop-reach-smaller c =
    let next = comes c.args.format c.args.text.now c.loop-reach.at c.loop-reach.before (omega arith) c.next_record.ensures (ap next_in (c.in_ok-reach.was ∙ ap Ok c.in-Data.is)) in
    omega (arith, next.further, next.inside)

pub loop-reach-preserved : goal.loop-reach-preserved
loop-reach-preserved c =
    let next = comes c.args.format c.args.text.now c.loop-reach.at c.loop-reach.before (omega arith) c.next_record.ensures (ap next_in (c.in_ok-reach.was ∙ ap Ok c.in-Data.is)) in (
      omega (arith, next.inside),
      omega (arith, next.further),
      omega (arith, c.loop-reach.invariant.2),
      sym (lay_data _ _ c.loop-reach.at _ c.loop-reach.memory next c.rest.ensures c.store_bytes.ensures.bytes) ∙ c.loop-reach.invariant.3,
    )
