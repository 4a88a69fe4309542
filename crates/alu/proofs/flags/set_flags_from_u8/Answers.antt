-- The status is replaced by one with N and Z replaced.
use Rattle.registers.specs.State.{flags}
use Rattle.manual.specs.Flags.{shown}
use Rattle.alu.proofs.flags.set_flags_from_u8.Goals as goal

pub returns : goal.returns
unfolding shown flags
returns c = rw (c.with_status.ensures, c.with_result.ensures)
