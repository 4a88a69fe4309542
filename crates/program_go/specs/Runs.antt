-- The run of a file by go, its status, and the file that it leaves.
use Rattle.std.specs.Prelude.{ℕ, List, length, Option, Some, None}
use Rattle.manual.specs.declared.Machine.{Machine}
use Rattle.manual.specs.declared.Ended.{Ended}
use Rattle.manual.specs.Micro.{Micro, exec}
use Rattle.manual.specs.Interrupts.{idle}
use Rattle.manual.specs.Stepping.{long_run}
use Rattle.statuses.specs.declared.Goal.{Goal}
use Rattle.statuses.specs.Statuses.{end_status}
use Rattle.image_run.specs.Report.{long_image_run}
use Rattle.image_halted.specs.Halted.{start_of, memory_of, after_file}

-- it begins as the image's own program does, or goes on from the state of a run that was halted
abbrev pub run_from : Option Machine → ℕ → ℕ → Micro Ended
run_from None steps size = long_image_run steps size
run_from (Some s) steps size = long_run size steps idle s

-- how it ends, and the memory after it
unfoldable pub file_run : ℕ → List ℕ → Ended × List ℕ
file_run steps file = exec (run_from (start_of file) steps (length (memory_of file))) (memory_of file)

unfoldable pub go_status : Goal → ℕ → List ℕ → ℕ
go_status goal steps file = end_status goal (file_run steps file).0

-- what AFTER holds if the status is 0
unfoldable pub go_after : Goal → ℕ → List ℕ → List ℕ
go_after goal steps file = let w = file_run steps file in after_file goal w.0.machine w.1
