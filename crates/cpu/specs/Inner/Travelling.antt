-- Steps on a full memory, and the first address on the bus of the last of them, which a run drops and a step keeps.
use Rattle.std.specs.Prelude.{ℕ, zero, suc, ◌+◌, cond}
use Rattle.manual.specs.declared.Lines.{Lines}
use Rattle.manual.specs.declared.Machine.{Machine}
use Rattle.manual.specs.declared.Ended.{Ended}
use Rattle.manual.specs.declared.Reason.TheVariants.{Made}
use Rattle.manual.specs.Micro.{Micro, done, ◌>>=◌}
use Rattle.manual.specs.Outcomes.{is_made, ended}
use Rattle.manual.specs.Stepping.{step_full}
use Rattle.cpu.specs.declared.Travelled.{Travelled}

abbrev pub travelled : ℕ → Ended → Travelled
travelled first q = record { ended = q; first = first }

-- n more steps, after k; `first` is the first address of the last of them
unfoldable pub travelling : ℕ → ℕ → ℕ → Lines → Machine → Micro Travelled
travelling zero k first lines s = done (travelled first (ended Made k s))
travelling (suc n) k first lines s = do
  q ← step_full lines s
  cond (is_made q.reason) (travelling n (k + 1) q.first lines q.machine) (done (travelled q.first (ended q.reason k q.machine)))
