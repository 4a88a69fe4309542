-- The run refuses an image of another length by itself.
use Rattle.std.proofs.Common.{◌∙◌}
use Rattle.manual.proofs.Lemmas.StepLaws.{run_short}
use Rattle.image_run.specs.Lemmas.Report.{started}
use Rattle.program_report.proofs.image.run_image.Goals as goal

pub returns : goal.returns
returns c =
    started _ _ (λ s other. run_short _ 1000 _ s _ other) ∙ rw (c.start_image-machine.ensures, c.idle.ensures) at c.run.ensures
