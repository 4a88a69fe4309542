-- Each part is the definition's.
use Rattle.mos6502_numbers.specs.Packed.{unpacked}
use Rattle.mos6502_numbers.proofs.unpack.Goals as goal

pub returns : goal.returns
unfolding unpacked
returns c = rw (c.new.ensures, c.pulled.ensures)
