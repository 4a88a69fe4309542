-- The length and the bound are tested, in that order, before any step.
use Rattle.std.proofs.Common.{◌∙◌}
use Rattle.manual.proofs.Lemmas.StepLaws.{run_short, run_long, run_whole}
use Rattle.cpu.proofs.run.Goals as goal

pub returns-in_default : goal.returns-in_default
returns-in_default c = run_short _ _ _ _ _ c.in_default.ensures.cases ∙ rw c.new.ensures

pub returns-then-bound-gt-HIGHEST_BOUND : goal.returns-then-bound-gt-HIGHEST_BOUND
returns-then-bound-gt-HIGHEST_BOUND c =
    run_long _ _ _ _ _ c.in-Some.ensures.cases.long c.if-bound-gt-HIGHEST_BOUND.true ∙ rw (c.new-then-bound-gt-HIGHEST_BOUND.ensures, c.in-Some.ensures.cases.same)

pub returns : goal.returns
returns c = rw (run_whole _ _ _ _ c.in-Some.ensures.cases.long c.if-bound-gt-HIGHEST_BOUND.false) (rw c.in-Some.ensures.cases.same at c.travel.ensures)
