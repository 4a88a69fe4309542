-- What binary ADC and SBC (manual, chapter 2) and the compares (chapter 4) give, for two bytes and a carry.
use Rattle.std.specs.Prelude.{ℕ, ◌+◌, ◌-◌, ◌*◌, ◌≤◌, ◌<◌, ◌≡◌, refl, ◌↔◌, Bool, true, false, not, cond, ◌||◌, leb, ℤ, pos, negsuc, neg_ℤ, ◌+ℤ◌, ◌-ℤ◌, ◌≤ℤ◌}
use Rattle.std.proofs.Common.{arith, leb→le, le→leb}
use borrow.Author.Tests.{ltb-true, lt-ltb, leb-true, le-leb, eqb-true, eq-eqb}
use Rattle.registers.specs.declared.Registers.{Registers}
use Rattle.registers.specs.StatusByte.{bit, bit_at}
use Rattle.manual.specs.Words.{low_byte, signed, outside}
use Rattle.registers.specs.State.{set_nz, set_c, set_status, flags}
use Rattle.manual.specs.Arithmetic.{sum_overflows, difference_overflows, binary_sum, binary_difference}
use Rattle.manual.specs.Flags.{shown}
use Rattle.manual.specs.Branching.{compared}
use Rattle.manual.specs.Lemmas.IntegerLemmas.{by_test, flag_iff, bit_not, bit_test, Difference, natural, sum, negated, of_byte, signed_byte}

-- a signed number that a byte has: minus 128 to 127
pub record FitsByte (z : ℤ) : Type 0 where
  pub at_least : neg_ℤ (pos 128) ≤ℤ z
  pub at_most : z ≤ℤ pos 127

-- what the two answers of `outside` say
abbrev Says : Bool → ℤ → Type 0
Says answer z = cond answer (¬ FitsByte z) (FitsByte z)

-- each answer is right
decided : (z : ℤ) → Says (outside z) z
unfolding outside
decided (pos n) = by_test (λ t. Says t (pos n)) 128 n (λ h f. omega (arith, leb→le)) (λ h. omega (arith, le→leb))
decided (negsuc n) = by_test (λ t. Says (t || false) (negsuc n)) 128 n (λ h f. omega (arith, leb→le)) (λ h. omega (arith, le→leb))

-- if `outside` is false, the number fits
inside : (z : ℤ) → outside z ≡ false → FitsByte z
inside z e = rw e at (decided z)

-- `outside` is true exactly of the numbers that no byte has
pub outside_iff : (z : ℤ) → outside z ≡ true ↔ ¬ FitsByte z
outside_iff z = flag_iff (outside z) (λ e. rw e at (decided z)) (λ e f. f (inside z e))

-- a difference that fits, as bounds on its two parts
in_range : {z : ℤ} {x y : ℕ} → Difference z x y → FitsByte z → (y ≤ x + 128) × (x ≤ y + 127)
in_range {z = pos n} d f = omega (arith, leb→le)
in_range {z = negsuc n} d f = omega (arith, leb→le)

module _ (a m : ℕ) (c : Bool) (a_byte : a < 256) (m-byte : m < 256) where
  -- ADC: the result is A + M + C modulo 256, and a set C says that 256 was carried out
  pub adc_unsigned :
      ((binary_sum a m c).result < 256)
      × ((binary_sum a m c).result + 256 * bit (binary_sum a m c).carry ≡ a + m + bit c)
  unfolding binary_sum
  adc_unsigned = omega (arith, bit_not c, bit_test 256 (a + m + bit c))

  -- ADC: C is set exactly if A + M + C exceeds 255
  pub adc_carry : (binary_sum a m c).carry ≡ true ↔ 255 < a + m + bit c
  unfolding binary_sum
  adc_carry = (ltb-true 255 (a + m + bit c), lt-ltb 255 (a + m + bit c))

  -- ADC: V is set exactly if the signed sum lies outside minus 128 to 127
  pub adc_overflow : (binary_sum a m c).overflow ≡ true ↔ ¬ FitsByte (signed a +ℤ signed m +ℤ pos (bit c))
  unfolding binary_sum sum_overflows
  adc_overflow = outside_iff _

  -- ADC: if V is clear, the result as a signed number is the signed sum
  pub adc_signed : (binary_sum a m c).overflow ≡ false → signed (binary_sum a m c).result ≡ signed a +ℤ signed m +ℤ pos (bit c)
  unfolding binary_sum sum_overflows
  adc_signed v =
      let total = sum (sum (of_byte a a_byte) (of_byte m m-byte)) (natural (bit c)) in
      signed_byte (binary_sum a m c).result adc_unsigned.0 (omega (arith, adc_unsigned)) total (in_range total (inside _ v))

  -- SBC: the result is A - M - (1 - C) modulo 256, and a clear C says that 256 was borrowed
  pub sbc_unsigned :
      ((binary_difference a m c).result < 256)
      × ((binary_difference a m c).result + m + bit (not c) ≡ a + 256 * bit (not (binary_difference a m c).carry))
  unfolding binary_difference
  sbc_unsigned =
      let taken = m + bit (not c) in
      omega (arith, bit_not c, bit_test taken a, bit_not (leb taken a))

  -- SBC: C is set exactly if A is at least M + (1 - C)
  pub sbc_carry : (binary_difference a m c).carry ≡ true ↔ m + bit (not c) ≤ a
  unfolding binary_difference
  sbc_carry = (leb-true (m + bit (not c)) a, le-leb (m + bit (not c)) a)

  -- SBC: V is set exactly if the signed difference lies outside minus 128 to 127
  pub sbc_overflow : (binary_difference a m c).overflow ≡ true ↔ ¬ FitsByte (signed a -ℤ signed m -ℤ pos (bit (not c)))
  unfolding binary_difference difference_overflows
  sbc_overflow = outside_iff _

  -- SBC: if V is clear, the result as a signed number is the signed difference
  pub sbc_signed :
      (binary_difference a m c).overflow ≡ false → signed (binary_difference a m c).result ≡ signed a -ℤ signed m -ℤ pos (bit (not c))
  unfolding binary_difference difference_overflows
  sbc_signed v =
      let total = sum (sum (of_byte a a_byte) (negated (of_byte m m-byte))) (negated (natural (bit (not c)))) in
      signed_byte (binary_difference a m c).result sbc_unsigned.0 (omega (arith, sbc_unsigned)) total (in_range total (inside _ v))

-- what a compare of a register with M leaves
pub record Compared (register m : ℕ) (before after : Registers) : Type 0 where
  -- C is set exactly if the register is at least M
  pub carry : after.status.carry ≡ true ↔ m ≤ register
  -- Z is set exactly if the two are equal
  pub zero : after.status.zero ≡ true ↔ register ≡ m
  -- N is bit 7 of the difference modulo 256
  pub negative : after.status.negative ≡ bit_at 7 (low_byte (register + 256 - m))
  -- nothing else changes: with N, Z and C put back, these are the registers before
  pub unchanged :
      flags (λ p. set_c before.status.carry (set_nz before.status.negative before.status.zero p)) after ≡ before

-- CMP, CPX and CPY: C, Z and N are those of the two bytes, and the rest stays
pub compare_flags : (register m : ℕ) (r : Registers) → register < 256 → m < 256 → Compared register m r (compared register m r)
unfolding compared shown flags set_status set_nz set_c
compare_flags register m r register-byte m-byte = record {
  carry = (leb-true m register, le-leb m register);
  zero = (λ e. omega (arith, eqb-true (low_byte (register + 256 - m)) 0 e), λ e. eq-eqb (low_byte (register + 256 - m)) 0 (omega arith));
  negative = refl;
  unchanged = refl;
}
