-- A step on a lent record (P13): the definition's step, split into what the caller is told and the machine that is in the record afterwards.
use Rattle.std.specs.Prelude.{ℕ}
use Rattle.manual.specs.declared.Lines.{Lines}
use Rattle.manual.specs.declared.Machine.{Machine}
use Rattle.manual.specs.declared.Stepped.{Stepped}
use Rattle.manual.specs.Micro.{Micro, done, ◌>>=◌}
use Rattle.manual.specs.Stepping.{step}
use Rattle.cpu_record.specs.declared.StepAnswer.{StepAnswer}

-- the reason, and the first address on the bus
abbrev pub told : Stepped → StepAnswer
told q = record { reason = q.reason; first = q.first }

unfoldable pub step_record : ℕ → Lines → Machine → Micro (StepAnswer × Machine)
step_record size lines s = do
  q ← step size lines s
  done (told q, q.machine)
