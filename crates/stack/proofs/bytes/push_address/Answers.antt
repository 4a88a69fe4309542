-- Two pushes, one after the other.
use Rattle.manual.proofs.Lemmas.InstructionLaws.{push_address_gives}
use Rattle.stack.proofs.bytes.push_address.Goals as goal

pub returns : goal.returns
returns c =
    push_address_gives _ _ _ (rw c.high.ensures at c.push_on_stack-after.ensures) (rw c.low.ensures at c.push_on_stack.ensures)
