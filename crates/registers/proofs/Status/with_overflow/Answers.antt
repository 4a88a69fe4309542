-- What `set_v` does not replace is the same.
use Rattle.registers.specs.State.{set_v}
use Rattle.registers.proofs.Status.with_overflow.Goals as goal

pub returns : goal.returns
unfolding set_v
returns c = rw c.kept_apart-after.ensures
