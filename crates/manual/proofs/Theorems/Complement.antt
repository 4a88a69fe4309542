-- Subtraction as addition: A - M - (1 - C) is A + (255 - M) + C. 255 - M is M with every bit turned over, its complement.
use Rattle.std.specs.Prelude.{ℕ, ◌+◌, ◌-◌, ◌<◌, Bool, not, ◌≡◌, leb, ltb, pos, neg_ℤ, ◌-ℤ◌}
use Rattle.std.proofs.Common.{ap, lt-ltb, le-ltb}
use native.Mathlib.Omega.{arith}
use Rattle.registers.specs.StatusByte.{bit}
use Rattle.manual.specs.Words.{low_byte, signed, outside}
use Rattle.manual.specs.Arithmetic.{sum_overflows, difference_overflows, binary_sum, binary_difference}
use Rattle.manual.specs.Lemmas.IntegerLemmas.{by_test, bit_not, natural, sum, negated, of_byte, same}

-- As a signed number the complement of a byte is one less than its negative.
pub signed_complement : (m : ℕ) → m < 256 → signed (255 - m) ≡ neg_ℤ (pos 1) -ℤ signed m
signed_complement m h = same (of_byte (255 - m) (omega arith)) (sum (negated (natural 1)) (negated (of_byte m h))) (omega arith)

module _ (a m : ℕ) (c : Bool) (a_byte : a < 256) (m-byte : m < 256) where
  -- So the signed sum with the complement is the signed difference, and one overflows if the other does.
  pub overflow_complement : sum_overflows a (255 - m) c ≡ difference_overflows a m c
  unfolding sum_overflows difference_overflows
  overflow_complement =
      let flags = bit_not c in
      rw (signed_complement m m-byte)
      (ap outside
      (same
      (sum (sum (of_byte a a_byte) (sum (negated (natural 1)) (negated (of_byte m m-byte)))) (natural (bit c)))
      (sum (sum (of_byte a a_byte) (negated (of_byte m m-byte))) (negated (natural (bit (not c)))))
      (omega arith)))

  carry_complement : ltb 255 (a + (255 - m) + bit c) ≡ leb (m + bit (not c)) a
  carry_complement =
      let flags = bit_not c in
      let sum = a + (255 - m) + bit c in
      by_test (λ t. ltb 255 sum ≡ t) (m + bit (not c)) a (λ h. lt-ltb 255 sum (omega arith)) (λ h. le-ltb 255 sum (omega arith))

  -- The sum with the complement is the difference: the result, C and V.
  pub complement : binary_sum a (255 - m) c ≡ binary_difference a m c
  unfolding binary_sum binary_difference
  complement =
      let flags = bit_not c in
      let result : low_byte (a + (255 - m) + bit c) ≡ low_byte (a + 256 - m - bit (not c)) = omega arith in
      rw (result, carry_complement, overflow_complement)
