-- Each run by steps is a part of the run by cycles.
use Rattle.std.proofs.Common.{[], sym, ◌∙◌, arith}
use Rattle.manual.proofs.Lemmas.StepLaws.{long_whole}
use Rattle.manual.proofs.Theorems.Spending.{cycles_short, cycles_long, cycles_whole}
use Rattle.cpu_cycles.specs.Lemmas.Budget.{unspent, spent, sure_pays}
use Rattle.cpu_cycles.proofs.run_cycles.Goals as goal

pub returns-then-memory-ne-FULL_MEMORY : goal.returns-then-memory-ne-FULL_MEMORY
returns-then-memory-ne-FULL_MEMORY c = cycles_short _ _ _ _ _ c.if-memory-ne-FULL_MEMORY.true ∙ rw c.new.ensures

pub returns-then-limit-gt-HIGHEST_BOUND : goal.returns-then-limit-gt-HIGHEST_BOUND
returns-then-limit-gt-HIGHEST_BOUND c =
    cycles_long _ _ _ _ _ c.if-memory-ne-FULL_MEMORY.false c.if-limit-gt-HIGHEST_BOUND.true ∙ rw c.new-then-limit-gt-HIGHEST_BOUND.ensures

pub loop-after-init : goal.loop-after-init
loop-after-init c = (c.if-memory-ne-FULL_MEMORY.false, unspent _ _ _ _)

pub overflow_sub-after : goal.overflow_sub-after
overflow_sub-after c = omega (arith, c.loop-after.invariant.1.least)

pub overflow_sub-left : goal.overflow_sub-left
overflow_sub-left c = omega (arith, c.loop-after.invariant.1.least)

pub overflow_add-steps : goal.overflow_add-steps
overflow_add-steps c =
    let paid = sure_pays _ _ _ _ c.loop-after.invariant.1 _ c.sure_steps.ensures c.loop-after-test.true (rw (long_whole _ _ _ _ c.loop-after.invariant.0) at c.long_run-ended.ensures) in
    omega (arith, paid.fits, c.ranges.limit.fits)

pub returns-then-not-is_made : goal.returns-then-not-is_made
returns-then-not-is_made c =
    let paid = sure_pays _ _ _ _ c.loop-after.invariant.1 _ c.sure_steps.ensures c.loop-after-test.true (rw (long_whole _ _ _ _ c.loop-after.invariant.0) at c.long_run-ended.ensures) in
    rw (cycles_whole _ _ _ _ [] c.if-memory-ne-FULL_MEMORY.false c.if-limit-gt-HIGHEST_BOUND.false)
    (paid.stops (sym c.is_made.ensures ∙ c.if-not-is_made.true) ∙ rw c.new-then-not-is_made.ensures)

pub loop-after-smaller : goal.loop-after-smaller
loop-after-smaller c =
    let paid = sure_pays _ _ _ _ c.loop-after.invariant.1 _ c.sure_steps.ensures c.loop-after-test.true (rw (long_whole _ _ _ _ c.loop-after.invariant.0) at c.long_run-ended.ensures) in
    omega (arith, (paid.goes (sym c.is_made.ensures ∙ c.if-not-is_made.false)).0, c.loop-after-test.true)

pub loop-after-preserved : goal.loop-after-preserved
loop-after-preserved c =
    let paid = sure_pays _ _ _ _ c.loop-after.invariant.1 _ c.sure_steps.ensures c.loop-after-test.true (rw (long_whole _ _ _ _ c.loop-after.invariant.0) at c.long_run-ended.ensures) in
    (omega (arith, c.loop-after.invariant.0), (paid.goes (sym c.is_made.ensures ∙ c.if-not-is_made.false)).1)

pub returns : goal.returns
returns c =
    rw (cycles_whole _ _ _ _ [] c.if-memory-ne-FULL_MEMORY.false c.if-limit-gt-HIGHEST_BOUND.false)
    (spent _ _ _ _ c.loop-after.invariant.1 (omega (arith, c.loop-after-test.false, c.loop-after.invariant.1.least)) ∙ rw c.new-2.ensures)
