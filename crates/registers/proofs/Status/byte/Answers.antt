-- A flag is at most 1, so every product and sum of `byte` fits a byte; and the last sum is the byte of the definition.
use Rattle.std.proofs.Common.{rules}
use Rattle.registers.specs.StatusByte.{status_byte}
use Rattle.registers.proofs.Status.byte.Goals as goal

pub returns : goal.returns
unfolding status_byte
returns c = search rules
