-- The length is tested before any step.
use Rattle.mos6502.specs.Lemmas.Numbers.{long_run_short_memory, long_run_on_full}
use Rattle.mos6502.proofs.mos6502_long_run.Goals as goal

pub returns-in_default : goal.returns-in_default
returns-in_default c = long_run_short_memory _ _ _ _ _ _ c.in_default.ensures.cases

pub returns : goal.returns
returns c =
    rw c.in-Some.ensures.cases.same at (long_run_on_full _ _ _ _ _ _ c.in-Some.ensures.cases.long c.go_on.ensures.gives)
