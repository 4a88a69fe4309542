-- The unpacked registers, the count and the unpacked level.
use Rattle.mos6502_numbers.proofs.machine_from.Goals as goal

pub returns : goal.returns
returns c = rw (c.new.ensures, c.unpack_nmi.ensures, c.unpack.ensures)
