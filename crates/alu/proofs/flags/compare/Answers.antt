-- C is set, and then N and Z of the difference.
use Rattle.manual.specs.Branching.{compared}
use Rattle.alu.proofs.flags.compare.Goals as goal

pub returns : goal.returns
unfolding compared
returns c = rw (c.set_flags_from_u8.ensures, c.set_carry-carried.ensures)
