-- The sum is the definition's, and its parts do not touch.
use mathlib.Core.Path.{refl}
use native.Mathlib.Omega.{arith}
use Rattle.registers.specs.InRange.{InRange}
use Rattle.mos6502_numbers.specs.Packed.{packed}
use Rattle.mos6502_numbers.specs.Lemmas.RoundTrip.{unpacked_packed, level_packed}
use Rattle.mos6502_numbers.proofs.pack.Goals as goal

pub returns : goal.returns
unfolding packed
returns c =
    let a = c.args in
    let in_range : InRange a.registers = record { accumulator = omega arith; x = omega arith; y = omega arith; stack = omega arith; counter = omega arith } in
    rw (c.flag.ensures.value, c.pushed.ensures) (record { value = refl; result_value = (unpacked_packed a.registers a.nmi in_range, level_packed a.registers a.nmi in_range) })
