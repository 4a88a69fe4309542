-- What `set_status` does not replace is the same.
use Rattle.registers.specs.State.{set_status}
use Rattle.registers.proofs.Registers.with_status.Goals as goal

pub returns : goal.returns
unfolding set_status
returns c = rw c.kept_apart-after.ensures
