-- What `set_a` does not replace is the same.
use Rattle.registers.specs.State.{set_a}
use Rattle.registers.proofs.Registers.with_accumulator.Goals as goal

pub returns : goal.returns
unfolding set_a
returns c = rw c.kept_apart-after.ensures
