-- The part of the unpacked registers.
use Rattle.mos6502.proofs.mos6502_x.Goals as goal

pub returns : goal.returns
returns c = rw c.unpack.ensures
