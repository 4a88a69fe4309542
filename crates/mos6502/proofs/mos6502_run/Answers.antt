-- The length and the bound are tested, in that order, before any step.
use Rattle.mos6502.specs.Lemmas.Numbers.{run_short_memory, run_long_bound, run_on_full}
use Rattle.mos6502.proofs.mos6502_run.Goals as goal

pub returns-in_default : goal.returns-in_default
returns-in_default c = run_short_memory _ _ _ _ _ _ c.in_default.ensures.cases

pub returns-then-bound-gt-HIGHEST_BOUND : goal.returns-then-bound-gt-HIGHEST_BOUND
returns-then-bound-gt-HIGHEST_BOUND c =
    rw c.in-Some.ensures.cases.same (run_long_bound _ _ _ _ _ _ c.in-Some.ensures.cases.long c.if-bound-gt-HIGHEST_BOUND.true)

pub returns : goal.returns
returns c =
    rw c.in-Some.ensures.cases.same at
    (run_on_full _ _ _ _ _ _ c.in-Some.ensures.cases.long c.if-bound-gt-HIGHEST_BOUND.false c.go_on.ensures.gives)
