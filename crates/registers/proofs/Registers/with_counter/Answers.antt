-- What `set_pc` does not replace is the same.
use Rattle.registers.specs.State.{set_pc}
use Rattle.registers.proofs.Registers.with_counter.Goals as goal

pub returns : goal.returns
unfolding set_pc
returns c = rw c.kept_apart-after.ensures
