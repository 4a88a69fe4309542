-- Each turn makes some of the steps that are left.
use Rattle.std.proofs.Common.{◌≡◌, ◌-◌, sym, ◌∙◌, arith}
use Rattle.std.proofs.lemmas.Result.{err_from_is_err_and}
use Rattle.guard.specs.Lemmas.Guarding.{guarded_end, turn_halts, turn_stops, turn_goes}
use Rattle.guard.proofs.guarded_part.Goals as goal

pub returns-in_err-ended : goal.returns-in_err-ended
returns-in_err-ended c =
    let a = c.args in
    let l = c.loop-steps in
    let exit = err_from_is_err_and c.from_residual.result c.from_residual.ensures.1 in
    rw (exit.1, exit.2) (sym (l.invariant ∙ turn_halts _ _ a.bound l.steps a.lines l.machine l.memory c.loop-steps-test.true c.fitting.ensures c.reach.ensures c.turn.ensures _ c.in_err-ended.was))

pub returns-then-not-is_made : goal.returns-then-not-is_made
returns-then-not-is_made c =
    let a = c.args in
    let l = c.loop-steps in
    sym
    (l.invariant
    ∙ turn_stops _ _ a.bound l.steps a.lines l.machine l.memory c.loop-steps-test.true c.fitting.ensures c.reach.ensures c.turn.ensures _ c.in_ok-ended.was (sym c.is_made.ensures ∙ c.if-not-is_made.true))

pub loop-steps-smaller : goal.loop-steps-smaller
loop-steps-smaller c =
    let a = c.args in
    let l = c.loop-steps in
    let goes = turn_goes _ _ a.bound l.steps a.lines l.machine l.memory c.loop-steps-test.true c.fitting.ensures c.reach.ensures c.turn.ensures _ c.in_ok-ended.was (sym c.is_made.ensures ∙ c.if-not-is_made.false) in
    omega (arith, goes.0, goes.1)

pub loop-steps-preserved : goal.loop-steps-preserved
loop-steps-preserved c =
    let a = c.args in
    let l = c.loop-steps in
    l.invariant
    ∙ (turn_goes _ _ a.bound l.steps a.lines l.machine l.memory c.loop-steps-test.true c.fitting.ensures c.reach.ensures c.turn.ensures _ c.in_ok-ended.was (sym c.is_made.ensures ∙ c.if-not-is_made.false)).2

pub returns : goal.returns
returns c =
    let a = c.args in
    let l = c.loop-steps in
    let over : a.bound - l.steps ≡ 0 = omega (arith, c.loop-steps-test.false) in
    rw c.new.ensures (sym (rw over at l.invariant ∙ guarded_end _ _ _ _ _ _))
