-- What `set_s` does not replace is the same.
use Rattle.registers.specs.State.{set_s}
use Rattle.registers.proofs.Registers.with_stack.Goals as goal

pub returns : goal.returns
unfolding set_s
returns c = rw c.kept_apart-after.ensures
