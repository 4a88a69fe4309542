-- C and V are set, and then the accumulator is loaded.
use Rattle.registers.specs.State.{flags, set_status}
use Rattle.manual.specs.Instructions.{with_output}
use Rattle.alu.proofs.read.with_output.Goals as goal

pub returns : goal.returns
unfolding flags set_status with_output
returns c = rw (c.load_accumulator.ensures, c.set_overflow.ensures, c.set_carry-carried.ensures)
