-- The run to an address on numbers.
use Rattle.std.specs.Prelude.{ℕ, ltb}
use Rattle.manual.specs.declared.Ended.{Ended}
use Rattle.manual.specs.Micro.{Micro, done, ◌>>=◌}
use Rattle.mos6502_numbers.specs.Machines.{machine_from, lines_from, registers_after, cycles_after}
use Rattle.guard_stop.specs.Stop.{run_to, stop_answer}

-- what comes back: the answer, the steps that were made, and the two numbers
pub record StopNumbers : Type 0 where
  pub answer : ℕ
  pub steps : ℕ
  pub registers : ℕ
  pub cycles : ℕ

abbrev pub stop_numbers : ℕ → ℕ → ℕ → Ended → StopNumbers
stop_numbers stop registers cycles q = record {
  answer = stop_answer stop q;
  steps = q.steps;
  registers = registers_after (ltb 0 q.steps) q.machine registers;
  cycles = cycles_after (ltb 0 q.steps) q.machine cycles;
}

unfoldable pub run_to_on_numbers : ℕ → ℕ → ℕ → ℕ → ℕ → ℕ → Micro StopNumbers
run_to_on_numbers size stop bound lines registers cycles = do
  q ← run_to size stop bound (lines_from lines) (machine_from registers cycles)
  done (stop_numbers stop registers cycles q)
