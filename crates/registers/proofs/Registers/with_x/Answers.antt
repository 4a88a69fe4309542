-- What `set_x` does not replace is the same.
use Rattle.registers.specs.State.{set_x}
use Rattle.registers.proofs.Registers.with_x.Goals as goal

pub returns : goal.returns
unfolding set_x
returns c = rw c.kept_apart-after.ensures
