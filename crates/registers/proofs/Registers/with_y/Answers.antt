-- What `set_y` does not replace is the same.
use Rattle.registers.specs.State.{set_y}
use Rattle.registers.proofs.Registers.with_y.Goals as goal

pub returns : goal.returns
unfolding set_y
returns c = rw c.kept_apart-after.ensures
