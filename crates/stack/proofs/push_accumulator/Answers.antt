-- The accumulator is pushed.
use mathlib.Core.Path.{◌∙◌}
use Rattle.manual.proofs.Lemmas.InstructionLaws.{push_accumulator_gives}
use Rattle.stack.proofs.push_accumulator.Goals as goal

pub returns : goal.returns
returns c = push_accumulator_gives _ _ _ c.push_on_stack.ensures ∙ rw (c.leaves.ensures, c.advanced-after.ensures)
