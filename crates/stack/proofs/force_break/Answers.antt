-- The way in, from the address past the second byte and with the status as PHP pushes it.
use mathlib.Core.Path.{◌∙◌}
use Rattle.manual.proofs.Lemmas.InstructionLaws.{break_gives}
use Rattle.stack.proofs.force_break.Goals as goal

pub returns : goal.returns
returns c = break_gives _ _ _ (rw (c.pushed.ensures, c.operand_at.ensures) at c.enter-after.ensures) ∙ rw c.leaves.ensures
