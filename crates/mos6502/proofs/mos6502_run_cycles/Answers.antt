-- Each run by steps is a part of the run by cycles.
use Rattle.std.proofs.Common.{arith}
use Rattle.mos6502.specs.Lemmas.Numbers.{cycles_short_memory, cycles_long_limit}
use Rattle.mos6502.specs.Lemmas.Limits.{none_spent, all_spent, sure_spends}
use Rattle.mos6502.proofs.mos6502_run_cycles.Goals as goal

pub returns-in_default : goal.returns-in_default
returns-in_default c = cycles_short_memory _ _ _ _ _ _ c.in_default.ensures.cases

pub returns-then-limit-gt-HIGHEST_BOUND : goal.returns-then-limit-gt-HIGHEST_BOUND
returns-then-limit-gt-HIGHEST_BOUND c =
    rw c.in-Some.ensures.cases.same (cycles_long_limit _ _ _ _ _ _ c.in-Some.ensures.cases.long c.if-limit-gt-HIGHEST_BOUND.true)

pub loop-cycles-init : goal.loop-cycles-init
loop-cycles-init c = none_spent _ _ _ _ _

pub overflow_sub-cycles : goal.overflow_sub-cycles
overflow_sub-cycles c = omega (arith, c.loop-cycles.invariant.budget.least)

pub overflow_sub-left : goal.overflow_sub-left
overflow_sub-left c = omega (arith, c.loop-cycles.invariant.budget.least)

pub overflow_add-total : goal.overflow_add-total
overflow_add-total c =
    let run = sure_spends _ _ _ _ _ _ c.in-Some.ensures.cases.long c.if-limit-gt-HIGHEST_BOUND.false c.loop-cycles.invariant _ c.sure_steps.ensures c.loop-cycles-test.true (c.go_on-answer.ensures.gives, c.go_on-answer.ensures.cycles_after) in
    omega (arith, run.fits, c.ranges.limit.fits)

pub returns-then-answer-ne-NOT_REFUSED : goal.returns-then-answer-ne-NOT_REFUSED
returns-then-answer-ne-NOT_REFUSED c =
    let run = sure_spends _ _ _ _ _ _ c.in-Some.ensures.cases.long c.if-limit-gt-HIGHEST_BOUND.false c.loop-cycles.invariant _ c.sure_steps.ensures c.loop-cycles-test.true (c.go_on-answer.ensures.gives, c.go_on-answer.ensures.cycles_after) in
    rw c.in-Some.ensures.cases.same at (run.stops c.if-answer-ne-NOT_REFUSED.true)

pub loop-cycles-smaller : goal.loop-cycles-smaller
loop-cycles-smaller c =
    let run = sure_spends _ _ _ _ _ _ c.in-Some.ensures.cases.long c.if-limit-gt-HIGHEST_BOUND.false c.loop-cycles.invariant _ c.sure_steps.ensures c.loop-cycles-test.true (c.go_on-answer.ensures.gives, c.go_on-answer.ensures.cycles_after) in
    omega (arith, (run.goes c.if-answer-ne-NOT_REFUSED.false).0, c.loop-cycles-test.true, c.loop-cycles.invariant.budget.least)

pub loop-cycles-preserved : goal.loop-cycles-preserved
loop-cycles-preserved c =
    let run = sure_spends _ _ _ _ _ _ c.in-Some.ensures.cases.long c.if-limit-gt-HIGHEST_BOUND.false c.loop-cycles.invariant _ c.sure_steps.ensures c.loop-cycles-test.true (c.go_on-answer.ensures.gives, c.go_on-answer.ensures.cycles_after) in
    (run.goes c.if-answer-ne-NOT_REFUSED.false).1

pub returns : goal.returns
returns c =
    rw c.in-Some.ensures.cases.same at
    (all_spent _ _ _ _ _ _ c.in-Some.ensures.cases.long c.if-limit-gt-HIGHEST_BOUND.false c.loop-cycles.invariant (omega (arith, c.loop-cycles-test.false, c.loop-cycles.invariant.budget.least)))
