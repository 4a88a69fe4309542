-- The address and the status go on the stack before the vector is read.
use mathlib.Core.Path.{◌∙◌}
use Rattle.registers.specs.State.{flags}
use Rattle.manual.proofs.Lemmas.InstructionLaws.{enter_gives}
use Rattle.stack.proofs.enter.Goals as goal

pub returns : goal.returns
unfolding flags
returns c =
    enter_gives _ _ _ _ _ c.push_address-addressed.ensures c.push_on_stack-pushed.ensures
    ∙ rw (c.with_counter.ensures, c.with_status.ensures, c.with_disable-status.ensures, c.address_from_bytes-goal.ensures, c.read_address.ensures)
