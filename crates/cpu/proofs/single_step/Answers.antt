-- The length is tested first; a step is a turn of one.
use Rattle.std.proofs.Common.{refl, ◌∙◌, inr}
use Rattle.manual.proofs.Lemmas.StepLaws.{step_short, step_whole}
use Rattle.cpu.specs.Lemmas.Turning.{one_fits, turn_step}
use Rattle.cpu.proofs.single_step.Goals as goal

pub returns-in_default : goal.returns-in_default
returns-in_default c = step_short _ _ _ _ c.in_default.ensures.cases ∙ rw c.new.ensures

pub turn-turned-requires : goal.turn-turned-requires
turn-turned-requires c = (inr refl, one_fits _)

pub returns : goal.returns
returns c =
    let whole = c.in-Some.ensures.cases in
    rw (step_whole _ _ _ whole.long, c.new-2.ensures, c.reached.ensures) (turn_step _ _ _ (rw whole.same at c.turn-turned.ensures))
