-- The unpacked status, as PHP pushes it.
use Rattle.mos6502.proofs.mos6502_status.Goals as goal

pub returns : goal.returns
returns c = rw (c.pushed.ensures, c.unpack.ensures)
