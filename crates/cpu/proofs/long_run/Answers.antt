-- The length is tested before any step.
use Rattle.std.proofs.Common.{◌∙◌}
use Rattle.manual.proofs.Lemmas.StepLaws.{long_short, long_whole}
use Rattle.cpu.proofs.long_run.Goals as goal

pub returns-in_default : goal.returns-in_default
returns-in_default c = long_short _ _ _ _ _ c.in_default.ensures.cases ∙ rw c.new.ensures

pub returns : goal.returns
returns c = rw (long_whole _ _ _ _ c.in-Some.ensures.cases.long) (rw c.in-Some.ensures.cases.same at c.travel.ensures)
