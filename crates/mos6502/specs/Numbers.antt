-- The core on numbers: a step and a run on the registers as one number, with the levels of the lines as another.
use Rattle.std.specs.Prelude.{ℕ, ltb}
use Rattle.manual.specs.declared.Stepped.{Stepped}
use Rattle.manual.specs.declared.Ended.{Ended}
use Rattle.manual.specs.Micro.{Micro, done, ◌>>=◌}
use Rattle.manual.specs.Outcomes.{number, is_made}
use Rattle.manual.specs.Stepping.{step, run, long_run, run_cycles}
use Rattle.mos6502_numbers.specs.Machines.{machine_from, lines_from, registers_after, cycles_after}

-- what comes back of a step: the answer, the first address on the bus, and the two numbers after it
pub record StepNumbers : Type 0 where
  pub answer : ℕ
  pub first : ℕ
  pub registers : ℕ
  pub cycles : ℕ

abbrev pub step_numbers : ℕ → ℕ → Stepped → StepNumbers
step_numbers registers cycles q = record {
  answer = number q.reason;
  first = q.first;
  registers = registers_after (is_made q.reason) q.machine registers;
  cycles = cycles_after (is_made q.reason) q.machine cycles;
}

-- and of a run, with the steps that it made
pub record RunNumbers : Type 0 where
  pub answer : ℕ
  pub steps : ℕ
  pub registers : ℕ
  pub cycles : ℕ

abbrev pub run_numbers : ℕ → ℕ → Ended → RunNumbers
run_numbers registers cycles q = record {
  answer = number q.reason;
  steps = q.steps;
  registers = registers_after (ltb 0 q.steps) q.machine registers;
  cycles = cycles_after (ltb 0 q.steps) q.machine cycles;
}

unfoldable pub step_on_numbers : ℕ → ℕ → ℕ → ℕ → Micro StepNumbers
step_on_numbers size lines registers cycles = do
  q ← step size (lines_from lines) (machine_from registers cycles)
  done (step_numbers registers cycles q)

unfoldable pub run_on_numbers : ℕ → ℕ → ℕ → ℕ → ℕ → Micro RunNumbers
run_on_numbers size bound lines registers cycles = do
  q ← run size bound (lines_from lines) (machine_from registers cycles)
  done (run_numbers registers cycles q)

unfoldable pub long_run_on_numbers : ℕ → ℕ → ℕ → ℕ → ℕ → Micro RunNumbers
long_run_on_numbers size bound lines registers cycles = do
  q ← long_run size bound (lines_from lines) (machine_from registers cycles)
  done (run_numbers registers cycles q)

unfoldable pub run_cycles_on_numbers : ℕ → ℕ → ℕ → ℕ → ℕ → Micro RunNumbers
run_cycles_on_numbers size limit lines registers cycles = do
  q ← run_cycles size limit (lines_from lines) (machine_from registers cycles)
  done (run_numbers registers cycles q)
