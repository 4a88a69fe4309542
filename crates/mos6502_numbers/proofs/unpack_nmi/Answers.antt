-- The bit is the definition's.
use borrow.Author.Rules.{rules}
use Rattle.mos6502_numbers.specs.Packed.{unpacked_nmi}
use Rattle.mos6502_numbers.proofs.unpack_nmi.Goals as goal

pub returns : goal.returns
unfolding unpacked_nmi
returns c = search rules
