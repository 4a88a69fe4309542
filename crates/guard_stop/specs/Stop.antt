-- A run that is over when the counter is at an address before a step.
use Rattle.std.specs.Prelude.{ℕ, Bool, not, cond, eqb}
use Rattle.laws.specs.Answers.{not_refused, not_there}
use Rattle.manual.specs.declared.Lines.{Lines}
use Rattle.manual.specs.declared.Machine.{Machine}
use Rattle.manual.specs.declared.Ended.{Ended}
use Rattle.manual.specs.Micro.{Micro}
use Rattle.manual.specs.Outcomes.{number, is_made}
use Rattle.manual.specs.Stepping.{run_while, on_full}

abbrev pub elsewhere : ℕ → Machine → Bool
elsewhere stop s = not (eqb s.registers.counter stop)

-- any number of steps on a memory of any length
unfoldable pub run_to : ℕ → ℕ → ℕ → Lines → Machine → Micro Ended
run_to size stop bound lines s = on_full size s (run_while (elsewhere stop) bound 0 lines s)

-- its answer: 0 only if the counter is at the address
abbrev pub stop_answer : ℕ → Ended → ℕ
stop_answer stop q = cond (is_made q.reason) (cond (eqb q.machine.registers.counter stop) not_refused not_there) (number q.reason)
