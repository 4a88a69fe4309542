-- What a call of each C function that makes steps promises, as src/lib.rt and that of mos6502_step say it. `registers`, `cycles`, the bound or limit, `lines` and the
-- memory `m` are what it is given; `v` is what comes back in its result and in the numbers that it was lent, and `m'` the memory that it leaves.
use Rattle.std.specs.Prelude.{ℕ, List, length}
use Rattle.manual.specs.Micro.{Gives}
use Rattle.mos6502.specs.Numbers.{StepNumbers, RunNumbers, step_on_numbers, run_on_numbers, long_run_on_numbers, run_cycles_on_numbers}

abbrev pub StepCall : ℕ → ℕ → ℕ → List ℕ → StepNumbers → List ℕ → Type 0
StepCall registers cycles lines m v m' = Gives (step_on_numbers (length m) lines registers cycles) m v m'

abbrev pub RunCall : ℕ → ℕ → ℕ → ℕ → List ℕ → RunNumbers → List ℕ → Type 0
RunCall registers cycles bound lines m v m' = Gives (run_on_numbers (length m) bound lines registers cycles) m v m'

abbrev pub LongRunCall : ℕ → ℕ → ℕ → ℕ → List ℕ → RunNumbers → List ℕ → Type 0
LongRunCall registers cycles bound lines m v m' = Gives (long_run_on_numbers (length m) bound lines registers cycles) m v m'

abbrev pub CyclesCall : ℕ → ℕ → ℕ → ℕ → List ℕ → RunNumbers → List ℕ → Type 0
CyclesCall registers cycles limit lines m v m' = Gives (run_cycles_on_numbers (length m) limit lines registers cycles) m v m'
