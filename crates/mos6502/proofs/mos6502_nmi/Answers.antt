-- The unpacked level, as a number.
use Rattle.mos6502.proofs.mos6502_nmi.Goals as goal

pub returns : goal.returns
returns c = rw (c.flag.ensures.value, c.unpack_nmi.ensures)
