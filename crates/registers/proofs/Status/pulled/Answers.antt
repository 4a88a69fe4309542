-- Each flag of `pulled` is its bit of the byte.
use Rattle.std.proofs.Common.{div-one}
use Rattle.registers.specs.StatusByte.{pulled_status}
use Rattle.registers.proofs.Status.pulled.Goals as goal

pub returns : goal.returns
unfolding pulled_status
returns c = rw (c.new.ensures, div-one)
