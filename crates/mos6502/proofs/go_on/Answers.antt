-- Each turn is a part of the run.
use Rattle.std.proofs.Common.{arith}
use Rattle.mos6502.specs.Lemmas.Rounds.{at_first, at_last, round_turns}
use Rattle.mos6502.proofs.go_on.Goals as goal

pub loop-total-init : goal.loop-total-init
loop-total-init c = (omega arith, at_first _ _ _ _ _)

pub one_turn-answer-requires : goal.one_turn-answer-requires
one_turn-answer-requires c = omega (arith, c.loop-total-test.true)

pub overflow_add-total : goal.overflow_add-total
overflow_add-total c =
    let turn = round_turns _ _ _ _ _ _ _ _ _ c.loop-total.invariant.1 c.loop-total-test.true c.one_turn-answer.ensures.gives c.one_turn-answer.ensures.cycles_after in
    omega (arith, turn.few, c.ranges.bound.fits)

pub returns-then-answer-ne-NOT_REFUSED : goal.returns-then-answer-ne-NOT_REFUSED
returns-then-answer-ne-NOT_REFUSED c =
    let turn = round_turns _ _ _ _ _ _ _ _ _ c.loop-total.invariant.1 c.loop-total-test.true c.one_turn-answer.ensures.gives c.one_turn-answer.ensures.cycles_after in
    let ran = turn.stops c.if-answer-ne-NOT_REFUSED.true in
    record { gives = ran.0; cycles_after = ran.1 }

pub loop-total-smaller : goal.loop-total-smaller
loop-total-smaller c =
    let turn = round_turns _ _ _ _ _ _ _ _ _ c.loop-total.invariant.1 c.loop-total-test.true c.one_turn-answer.ensures.gives c.one_turn-answer.ensures.cycles_after in
    omega (arith, turn.few, (turn.goes c.if-answer-ne-NOT_REFUSED.false).0)

pub loop-total-preserved : goal.loop-total-preserved
loop-total-preserved c =
    let turn = round_turns _ _ _ _ _ _ _ _ _ c.loop-total.invariant.1 c.loop-total-test.true c.one_turn-answer.ensures.gives c.one_turn-answer.ensures.cycles_after in
    (turn.few, (turn.goes c.if-answer-ne-NOT_REFUSED.false).1)

pub returns : goal.returns
returns c =
    let ran = at_last _ _ _ _ _ _ _ _ _ c.loop-total.invariant.1 (omega (arith, c.loop-total.invariant.0, c.loop-total-test.false)) in
    record { gives = ran.0; cycles_after = ran.1 }
