-- The accumulator is loaded with the result.
use Rattle.manual.specs.Instructions.{applied}
use Rattle.alu.proofs.read.inclusive_or.Goals as goal

pub returns : goal.returns
unfolding applied
returns c = c.load_accumulator.ensures
