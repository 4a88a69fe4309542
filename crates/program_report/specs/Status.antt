-- The status of an image.
use Rattle.std.specs.Prelude.{ℕ, List, length}
use Rattle.manual.specs.Micro.{exec}
use Rattle.statuses.specs.declared.Goal.{Goal}
use Rattle.statuses.specs.Statuses.{end_status}
use Rattle.image_run.specs.Report.{image_run}

-- that of the report's run of it
abbrev pub image_status : Goal → List ℕ → ℕ
image_status goal image = end_status goal (exec (image_run (length image)) image).0
