-- Bit by bit.
use native.Mathlib.Nat.{div-one}
use Rattle.mos6502_numbers.proofs.lines_from.Goals as goal

pub returns : goal.returns
returns c = rw div-one
