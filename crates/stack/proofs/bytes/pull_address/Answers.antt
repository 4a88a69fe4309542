-- Two pulls, one after the other.
use mathlib.Core.Path.{◌∙◌}
use Rattle.manual.proofs.Lemmas.InstructionLaws.{pull_address_gives}
use Rattle.stack.proofs.bytes.pull_address.Goals as goal

pub returns : goal.returns
returns c =
    pull_address_gives _ _ c.pull_from_stack-first.ensures c.pull_from_stack-second.ensures
    ∙ rw c.address_from_bytes-at.ensures
