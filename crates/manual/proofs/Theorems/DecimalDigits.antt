-- Decimal mode: if every digit is 0 to 9, the Rust's rule, digit by digit, gives the manual's sum and difference (`manual_sum_lem`,
-- `manual_difference_lem`). So one rule serves all operands, and the code has only that one (`sum_by_digits`, `difference_by_digits`).
use Rattle.std.specs.Prelude.{ℕ, suc, ◌+◌, ◌-◌, ◌*◌, ◌/◌, ◌%◌, ◌≤◌, ◌<◌, ◌≡◌, refl, Bool, true, false, not, cond, ◌&&◌, leb}
use Rattle.std.proofs.Common.{ap, arith, le-leb}
use Rattle.std.proofs.lemmas.Bool.{lt-leb, not-true, not-false}
use Rattle.registers.specs.StatusByte.{bit}
use Rattle.manual.specs.declared.ArithmeticOutput.{ArithmeticOutput}
use Rattle.manual.specs.Arithmetic.{sum_overflows, difference_overflows}
use Rattle.manual.specs.Decimal.{is_decimal, value_of, digits_of, manual_sum, manual_difference, sum_digit, difference_digit, two_digits, rust_sum, rust_difference, with_overflow, decimal_sum, decimal_difference}
use Rattle.manual.specs.Lemmas.IntegerLemmas.{by_test, bit_not}

-- a number whose two digits are 0 to 9
pub record Decimal (b : ℕ) : Type 0 where
  pub tens : b / 16 ≤ 9
  pub units : b % 16 ≤ 9

-- what holds if the digits are 0 to 9, and if the test for them fails, holds of the test
by_digits : (P : Bool → Type 0) (b : ℕ) → (Decimal b → P true) → P false → P (is_decimal b)
by_digits P b f n =
    by_test (λ t. P (t && leb (b % 16) 9)) (b / 16) 9
    (λ h. by_test P (b % 16) 9 (λ k. f (record { tens = h; units = k })) (λ k. n))
    (λ h. n)

-- if the two parts agree on digits 0 to 9, the second serves all operands
either_way : {a m : ℕ} (x y : ℕ × Bool) (v : Bool) → (Decimal a → Decimal m → x ≡ y) → with_overflow (cond (is_decimal a && is_decimal m) x y) v ≡ with_overflow y v
either_way {a = a} {m = m} x y v f =
    let out : Bool → ArithmeticOutput = λ t. with_overflow (cond t x y) v in
    by_digits (λ t. out (t && is_decimal m) ≡ out false) a
    (λ d. by_digits (λ t. out t ≡ out false) m (λ e. ap (λ o. with_overflow o v) (f d e)) refl) refl

-- a digit of a sum: 10 is carried, and 0 to 9 stays
sum_digit_lem : (n : ℕ) → n ≤ 19 → ((sum_digit n).value ≤ 9) × ((sum_digit n).value + 10 * bit (sum_digit n).over ≡ n)
unfolding sum_digit
sum_digit_lem n h =
    let digit : Bool → ℕ = λ t. cond t (n - 10) n in
    by_test (λ t. (digit t ≤ 9) × (digit t + 10 * bit t ≡ n)) 10 n (λ l. omega arith) (λ l. omega arith)

-- a digit of a difference: 10 is borrowed, and 0 to 9 stays
difference_digit_lem : (x y : ℕ) → x ≤ 9 → y ≤ 10 → ((difference_digit x y).value ≤ 9) × ((difference_digit x y).value + y ≡ x + 10 * bit (difference_digit x y).over)
unfolding difference_digit
difference_digit_lem x y h k =
    let digit : Bool → ℕ = λ t. cond t ((x + 26 - y) % 16) (x - y) in
    by_test (λ t. (digit t ≤ 9) × (digit t + y ≡ x + 10 * bit t)) (suc x) y (λ l. omega arith) (λ l. omega arith)

-- two digits below a number of hundreds
two_digits_lem : (high low hundreds n : ℕ) → high ≤ 9 → low ≤ 9 → 10 * high + low + 100 * hundreds ≡ n → digits_of (n % 100) ≡ two_digits high low
two_digits_lem high low hundreds n h l e =
    let rest : n % 100 ≡ 10 * high + low = omega arith in
    let tens : n % 100 / 10 ≡ high % 16 = rw rest (omega arith) in
    let units : n % 100 % 10 ≡ low % 16 = rw rest (omega arith) in
    rw (tens, units)

-- a test whose answer is known
answered : (x y : ℕ) (t : Bool) → (t ≡ true → x ≤ y) → (t ≡ false → y < x) → leb x y ≡ t
answered x y true f g = le-leb x y (f refl)
answered x y false f g = lt-leb x y (g refl)

module _ (a m : ℕ) (c : Bool) where
  module _ (a-decimal : Decimal a) (m-decimal : Decimal m) where
    -- ADC: the digits are those of A + M + C, and a set C says that 100 was carried out
    pub manual_sum_lem : manual_sum a m c ≡ rust_sum a m c
    unfolding rust_sum
    manual_sum_lem =
        let carry = (sum_digit (a % 16 + m % 16 + bit c)).over in
        let units = sum_digit_lem (a % 16 + m % 16 + bit c) (omega (arith, bit_not c)) in
        let over = (sum_digit (a / 16 + m / 16 + bit carry)).over in
        let tens = sum_digit_lem (a / 16 + m / 16 + bit carry) (omega (arith, bit_not carry)) in
        rw (
          two_digits_lem _ _ (bit over) (value_of a + value_of m + bit c) tens.0 units.0 (omega arith),
          answered 100 (value_of a + value_of m + bit c) over (λ e. omega (arith, rw e at tens)) (λ e. omega (arith, rw e at tens)),
        )

    -- SBC: the digits are those of A - M - (1 - C), and a clear C says that 100 was borrowed
    pub manual_difference_lem : manual_difference a m c ≡ rust_difference a m c
    unfolding rust_difference
    manual_difference_lem =
        let borrow = (difference_digit (a % 16) (m % 16 + bit (not c))).over in
        let units = difference_digit_lem (a % 16) (m % 16 + bit (not c)) (omega arith) (omega (arith, bit_not c)) in
        let over = (difference_digit (a / 16) (m / 16 + bit borrow)).over in
        let tens = difference_digit_lem (a / 16) (m / 16 + bit borrow) (omega arith) (omega (arith, bit_not borrow)) in
        rw (
          two_digits_lem _ _ (bit (not over)) (value_of a + 100 - value_of m - bit (not c)) tens.0 units.0 (omega (arith, bit_not over)),
          answered (value_of m + bit (not c)) (value_of a) (not over)
              (λ e. omega (arith, rw (not-true over e) at tens)) (λ e. omega (arith, rw (not-false over e) at tens)),
        )

  pub sum_by_digits : decimal_sum a m c ≡ with_overflow (rust_sum a m c) (sum_overflows a m c)
  unfolding decimal_sum
  sum_by_digits = either_way (manual_sum a m c) (rust_sum a m c) (sum_overflows a m c) manual_sum_lem

  pub difference_by_digits : decimal_difference a m c ≡ with_overflow (rust_difference a m c) (difference_overflows a m c)
  unfolding decimal_difference
  difference_by_digits = either_way (manual_difference a m c) (rust_difference a m c) (difference_overflows a m c) manual_difference_lem
