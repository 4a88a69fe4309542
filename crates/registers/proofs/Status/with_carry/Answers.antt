-- What `set_c` does not replace is the same.
use Rattle.registers.specs.State.{set_c}
use Rattle.registers.proofs.Status.with_carry.Goals as goal

pub returns : goal.returns
unfolding set_c
returns c = rw c.kept_apart-after.ensures
