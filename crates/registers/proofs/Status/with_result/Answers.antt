-- What `set_nz` does not replace is the same.
use Rattle.registers.specs.State.{set_nz}
use Rattle.registers.proofs.Status.with_result.Goals as goal

pub returns : goal.returns
unfolding set_nz
returns c = rw c.kept_apart-after.ensures
