-- The status is pushed as a byte.
use mathlib.Core.Path.{◌∙◌}
use Rattle.manual.proofs.Lemmas.InstructionLaws.{push_status_gives}
use Rattle.stack.proofs.push_status.Goals as goal

pub returns : goal.returns
returns c =
    push_status_gives _ _ _ (rw c.pushed.ensures at c.push_on_stack.ensures)
    ∙ rw (c.leaves.ensures, c.advanced-after.ensures)
