-- Each way through the loop is one of the definition.
use mathlib.Core.Path.{sym, ◌∙◌}
use native.Mathlib.Omega.{arith}
use Rattle.trace_checking.specs.Lemmas.Turns.{long_line, inside_line, turn_end, turn_malformed, turn_accepted, turn_astray}
use Rattle.trace_checking.proofs.check_part.Goals as goal

pub loop-at-smaller : goal.loop-at-smaller
loop-at-smaller c =
    let part = c.args.part.now in
    omega (arith, c.loop-at-test.true, long_line part c.loop-at.at (omega arith) c.loop-at-test.true c.read_state.ensures _ c.in-Some.is)

pub loop-at-preserved : goal.loop-at-preserved
loop-at-preserved c =
    let part = c.args.part.now in
    let at = c.loop-at.at in (
      omega (arith, long_line part at (omega arith) c.loop-at-test.true c.read_state.ensures _ c.in-Some.is, c.loop-at.invariant.0),
      inside_line part at (omega arith) c.loop-at-test.true c.read_state.ensures _ c.in-Some.is,
      c.loop-at.invariant.2
          ∙ turn_accepted part at (omega arith) c.loop-at-test.true c.read_state.ensures _ _ _ _ c.in-Some.is c.accept.ensures c.if-not-accept.false,
    )

pub returns-in_default-clause-copy_after : goal.returns-in_default-clause-copy_after
returns-in_default-clause-copy_after c =
    sym (c.loop-at.invariant.2 ∙ turn_malformed c.args.part.now c.loop-at.at (omega arith) c.loop-at-test.true c.read_state.ensures _ _ _ c.in_default.is)

pub returns-then-not-accept-clause-copy_after : goal.returns-then-not-accept-clause-copy_after
returns-then-not-accept-clause-copy_after c =
    sym
    (c.loop-at.invariant.2
    ∙ turn_astray c.args.part.now c.loop-at.at (omega arith) c.loop-at-test.true c.read_state.ensures _ _ _ _ c.in-Some.is c.accept.ensures c.if-not-accept.true)

pub returns-clause-copy_after : goal.returns-clause-copy_after
returns-clause-copy_after c = sym (c.loop-at.invariant.2 ∙ turn_end c.args.part.now c.loop-at.at _ _ _ c.loop-at-test.false)
