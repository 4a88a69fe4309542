-- The packed number of the parts.
use Rattle.mos6502.proofs.mos6502_registers.Goals as goal

pub returns : goal.returns
returns c = rw (c.pack.ensures.value, c.new.ensures, c.pulled.ensures)
