-- What `set_i` does not replace is the same.
use Rattle.registers.specs.State.{set_i}
use Rattle.registers.proofs.Status.with_disable.Goals as goal

pub returns : goal.returns
unfolding set_i
returns c = rw c.kept_apart-after.ensures
