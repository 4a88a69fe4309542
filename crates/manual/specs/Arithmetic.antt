-- The accumulator and the arithmetic unit (manual, chapter 2): binary addition and subtraction.
use Rattle.std.specs.Prelude.{ℕ, ◌+◌, ◌-◌, Bool, not, leb, ltb, pos, ◌+ℤ◌, ◌-ℤ◌}
use Rattle.registers.specs.StatusByte.{bit}
use Rattle.manual.specs.declared.ArithmeticOutput.{ArithmeticOutput}
use Rattle.manual.specs.Words.{low_byte, signed, outside}

-- V of a sum and of a difference: the signed result does not fit a byte
unfoldable pub sum_overflows : ℕ → ℕ → Bool → Bool
sum_overflows a m c = outside (signed a +ℤ signed m +ℤ pos (bit c))

unfoldable pub difference_overflows : ℕ → ℕ → Bool → Bool
difference_overflows a m c = outside (signed a -ℤ signed m -ℤ pos (bit (not c)))

-- A + M + C
unfoldable pub binary_sum : ℕ → ℕ → Bool → ArithmeticOutput
binary_sum a m c = record { result = low_byte (a + m + bit c); carry = ltb 255 (a + m + bit c); overflow = sum_overflows a m c }

-- A - M - (1 - C), modulo 256: C is set if nothing had to be borrowed
unfoldable pub binary_difference : ℕ → ℕ → Bool → ArithmeticOutput
binary_difference a m c = record {
  result = low_byte (a + 256 - m - bit (not c));
  carry = leb (m + bit (not c)) a;
  overflow = difference_overflows a m c;
}
