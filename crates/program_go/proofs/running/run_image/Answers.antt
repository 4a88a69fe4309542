-- The run refuses an image of another length by itself.
use Rattle.std.proofs.Common.{◌∙◌}
use Rattle.manual.proofs.Lemmas.StepLaws.{long_short}
use Rattle.image_run.specs.Lemmas.Report.{started}
use Rattle.program_go.proofs.running.run_image.Goals as goal

pub returns : goal.returns
returns c =
    started _ _ (λ s other. long_short _ _ _ s _ other) ∙ rw c.start_image-machine.ensures at c.run_on.ensures
