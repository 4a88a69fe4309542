-- What `set_d` does not replace is the same.
use Rattle.registers.specs.State.{set_d}
use Rattle.registers.proofs.Status.with_decimal.Goals as goal

pub returns : goal.returns
unfolding set_d
returns c = rw c.kept_apart-after.ensures
