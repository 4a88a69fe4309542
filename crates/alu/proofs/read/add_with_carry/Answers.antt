-- The sum, as ADC leaves it.
use Rattle.manual.specs.Instructions.{applied}
use Rattle.alu.proofs.read.add_with_carry.Goals as goal

pub returns : goal.returns
unfolding applied
returns c = rw (c.with_output.ensures, c.sum.ensures)
