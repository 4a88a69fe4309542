-- The status of a run that is shown.
use Rattle.std.specs.Prelude.{ℕ, List, length}
use Rattle.manual.specs.Micro.{exec}
use Rattle.statuses.specs.declared.Goal.{Goal}
use Rattle.statuses.specs.Statuses.{end_status}
use Rattle.image_run.specs.Report.{long_image_run}

-- that of the whole run of at most so many steps
abbrev pub run_status : Goal → ℕ → List ℕ → ℕ
run_status goal count image = end_status goal (exec (long_image_run count (length image)) image).0
