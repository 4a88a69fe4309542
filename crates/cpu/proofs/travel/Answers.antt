-- Each turn is a part of the run.
use Rattle.std.proofs.Common.{sym, ap, ◌∙◌, arith}
use Rattle.cpu.specs.Inner.Turning.{reach}
use Rattle.cpu.specs.Lemmas.Rounds.{at_first, at_last, calm, fits, no_more, stops, some, goes}
use Rattle.cpu.proofs.travel.Goals as goal

pub loop-steps-init : goal.loop-steps-init
loop-steps-init c = at_first _ _ _ _

pub turn-requires : goal.turn-requires
turn-requires c =
    let far = c.reach-far.ensures ∙ ap (reach c.args.lines.irq) c.fitting.ensures in (
      calm _ _ _ _ c.loop-steps.invariant _ far c.loop-steps-test.true,
      fits _ _ _ _ c.loop-steps.invariant _ far c.loop-steps-test.true,
    )

pub overflow_add-steps : goal.overflow_add-steps
overflow_add-steps c =
    let far = c.reach-far.ensures ∙ ap (reach c.args.lines.irq) c.fitting.ensures in
    omega (arith, no_more _ _ _ _ c.loop-steps.invariant _ far c.loop-steps-test.true c.turn.ensures, c.ranges.bound.fits)

pub returns-then-not-is_made : goal.returns-then-not-is_made
returns-then-not-is_made c =
    let far = c.reach-far.ensures ∙ ap (reach c.args.lines.irq) c.fitting.ensures in
    stops _ _ _ _ c.loop-steps.invariant _ far c.loop-steps-test.true c.turn.ensures (sym c.is_made.ensures ∙ c.if-not-is_made.true)
    ∙ rw (c.new.ensures, c.reached-machine.ensures)

pub loop-steps-smaller : goal.loop-steps-smaller
loop-steps-smaller c =
    let far = c.reach-far.ensures ∙ ap (reach c.args.lines.irq) c.fitting.ensures in
    let made = sym c.is_made.ensures ∙ c.if-not-is_made.false in
    omega (arith, no_more _ _ _ _ c.loop-steps.invariant _ far c.loop-steps-test.true c.turn.ensures, some _ _ _ _ c.loop-steps.invariant _ far c.loop-steps-test.true c.turn.ensures made)

pub loop-steps-preserved : goal.loop-steps-preserved
loop-steps-preserved c =
    let far = c.reach-far.ensures ∙ ap (reach c.args.lines.irq) c.fitting.ensures in
    let made = sym c.is_made.ensures ∙ c.if-not-is_made.false in
    rw c.reached-machine.ensures (goes _ _ _ _ c.loop-steps.invariant _ far c.loop-steps-test.true c.turn.ensures made)

pub returns : goal.returns
returns c = at_last _ _ _ _ c.loop-steps.invariant (omega (arith, c.loop-steps-test.false)) ∙ rw c.new-2.ensures
