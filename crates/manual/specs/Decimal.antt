-- Decimal mode (manual, chapter 2): a byte holds two digits.
--
-- The manual decides A and C if every digit is 0 to 9. The Rust decides the rest, in the part that is marked so.
use Rattle.std.specs.Prelude.{ℕ, ◌+◌, ◌-◌, ◌*◌, ◌/◌, ◌%◌, Bool, not, cond, ◌&&◌, leb, ltb}
use Rattle.registers.specs.StatusByte.{bit}
use Rattle.manual.specs.declared.ArithmeticOutput.{ArithmeticOutput}
use Rattle.manual.specs.declared.Digit.{Digit}
use Rattle.manual.specs.Arithmetic.{sum_overflows, difference_overflows}

-- ==== The manual's part: A and C, if every digit is 0 to 9

-- both digits are 0 to 9
abbrev pub is_decimal : ℕ → Bool
is_decimal b = leb (b / 16) 9 && leb (b % 16) 9

-- the number that two digits say, and the two digits of a number below 100
abbrev pub value_of : ℕ → ℕ
value_of b = 10 * (b / 16) + b % 16

abbrev pub digits_of : ℕ → ℕ
digits_of n = n / 10 * 16 + n % 10

-- A + M + C, modulo 100, and C: the sum is above 99
abbrev pub manual_sum : ℕ → ℕ → Bool → ℕ × Bool
manual_sum a m c = (digits_of ((value_of a + value_of m + bit c) % 100), ltb 99 (value_of a + value_of m + bit c))

-- A - M - (1 - C), modulo 100, and C: nothing had to be borrowed
abbrev pub manual_difference : ℕ → ℕ → Bool → ℕ × Bool
manual_difference a m c = (digits_of ((value_of a + 100 - value_of m - bit (not c)) % 100), leb (value_of m + bit (not c)) (value_of a))

-- ==== The Rust's part: A and C if a digit is above 9; V, N and Z

-- A digit of a sum: above 9 it is 10 less, with a carry.
unfoldable pub sum_digit : ℕ → Digit
sum_digit sum = record { value = cond (ltb 9 sum) (sum - 10) sum; over = ltb 9 sum }

-- A digit of a difference: below 0 it is 10 more, modulo 16, with a borrow. (If y is above 9, even x + 10 - y may be below 0.)
unfoldable pub difference_digit : ℕ → ℕ → Digit
difference_digit x y = record { value = cond (ltb x y) ((x + 26 - y) % 16) (x - y); over = ltb x y }

abbrev pub two_digits : ℕ → ℕ → ℕ
two_digits tens units = tens % 16 * 16 + units % 16

unfoldable pub rust_sum : ℕ → ℕ → Bool → ℕ × Bool
rust_sum a m c =
    let units = sum_digit (a % 16 + m % 16 + bit c) in
    let tens = sum_digit (a / 16 + m / 16 + bit units.over) in
    (two_digits tens.value units.value, tens.over)

unfoldable pub rust_difference : ℕ → ℕ → Bool → ℕ × Bool
rust_difference a m c =
    let units = difference_digit (a % 16) (m % 16 + bit (not c)) in
    let tens = difference_digit (a / 16) (m / 16 + bit units.over) in
    (two_digits tens.value units.value, not tens.over)

-- Whatever the digits are, V is that of the binary operation, and N and Z are those of the result (`with_output` of Instructions).
abbrev pub with_overflow : ℕ × Bool → Bool → ArithmeticOutput
with_overflow w v = record { result = w.0; carry = w.1; overflow = v }

-- ==== Both together

unfoldable pub decimal_sum : ℕ → ℕ → Bool → ArithmeticOutput
decimal_sum a m c = with_overflow (cond (is_decimal a && is_decimal m) (manual_sum a m c) (rust_sum a m c)) (sum_overflows a m c)

unfoldable pub decimal_difference : ℕ → ℕ → Bool → ArithmeticOutput
decimal_difference a m c =
    with_overflow (cond (is_decimal a && is_decimal m) (manual_difference a m c) (rust_difference a m c)) (difference_overflows a m c)
