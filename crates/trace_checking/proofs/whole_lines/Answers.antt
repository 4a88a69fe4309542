-- The first LF from the end is the last one.
use mathlib.Core.Path.{◌≡◌, sym, ◌∙◌}
use Prim.Native.Nat.{◌+◌, ◌-◌}
use native.Mathlib.Omega.{arith}
use Rattle.trace_checking.specs.Theorems.Cutting.{end_here, end_before_lem, end_none}
use Rattle.trace_checking.proofs.whole_lines.Goals as goal

pub returns-then-text-last-eq10-clause-value : goal.returns-then-text-last-eq10-clause-value
returns-then-text-last-eq10-clause-value c =
    let one : c.loop-last.last - 1 + 1 ≡ c.loop-last.last = omega (arith, c.loop-last-test.true) in
    rw one (sym (c.loop-last.invariant ∙ end_here _ _ c.loop-last-test.true c.if-text-last-eq10.true))

pub loop-last-preserved : goal.loop-last-preserved
loop-last-preserved c = c.loop-last.invariant ∙ end_before_lem _ _ c.loop-last-test.true c.if-text-last-eq10.false

pub returns-clause-value : goal.returns-clause-value
returns-clause-value c = sym (c.loop-last.invariant ∙ end_none _ _ (omega (arith, c.loop-last-test.false)))
