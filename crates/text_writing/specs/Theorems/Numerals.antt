-- Decimal numerals say their number: read back digit by digit they give it, and none begins with 0 but 0 itself.
use Rattle.std.specs.Prelude.{◌≡◌, refl, Bool, true, false, List, [], ◌∷◌, ◌++◌, ℕ, zero, suc, ◌+◌, ◌-◌, ◌*◌, ◌/◌, ◌%◌, ◌≤◌, ◌<◌, ltb, length, get_or}
use Rattle.std.proofs.Common.{arith, length-append, ltb-true, ltb-false}
use Rattle.std.proofs.Math.ListN.{get_or-append}
use Rattle.laws.specs.Lemmas.Agree.{agree}
use Rattle.text_writing.specs.Numerals.{digit, decimal}
use Rattle.text_writing.specs.Lemmas.Texts.{decimal_one, decimal_more}

-- the number of a row of digits, after one that was read before
abbrev pub value_after : ℕ → List ℕ → ℕ
value_after n [] = n
value_after n (c ∷ t) = value_after (10 * n + (c - 48)) t

digit_code : (d : ℕ) → d < 10 → digit d ≡ 48 + d
unfolding digit
digit_code d h = agree digit (λ k. 48 + k) 10 refl d h

value_last : (n c : ℕ) (t : List ℕ) → value_after n (t ++ c ∷ []) ≡ 10 * value_after n t + (c - 48)
value_last n c [] = refl
value_last n c (d ∷ t) = value_last (10 * n + (d - 48)) c t

module _ (n : ℕ) where
  step : (b : Bool) → ltb n 10 ≡ b → (10 ≤ n → value_after 0 (decimal (n / 10)) ≡ n / 10) → value_after 0 (decimal n) ≡ n
  step true e h =
      let small = ltb-true n 10 e in
      rw (decimal_one n small, digit_code n small) (omega arith)
  step false e h =
      let large = ltb-false n 10 e in
      rw (decimal_more n large, value_last 0 (digit (n % 10)) (decimal (n / 10)), h large, digit_code (n % 10) (omega arith)) (omega arith)

value_below : (k n : ℕ) → n < k → value_after 0 (decimal n) ≡ n
value_below zero n h = absurd (omega arith)
value_below (suc k) n h = step n (ltb n 10) refl (λ large. value_below k (n / 10) (omega arith))

pub decimal_value : (n : ℕ) → value_after 0 (decimal n) ≡ n
decimal_value n = value_below (suc n) n (omega arith)

-- a numeral has a first digit, and the next ones do not change it
some_digits : (b : Bool) (n : ℕ) → ltb n 10 ≡ b → 0 < length (decimal n)
some_digits true n e = rw (decimal_one n (ltb-true n 10 e)) (omega arith)
some_digits false n e =
    rw (decimal_more n (ltb-false n 10 e), length-append (decimal (n / 10)) (digit (n % 10) ∷ [])) (omega arith)

first_step : (b : Bool) (n : ℕ) → ltb n 10 ≡ b → 0 < n → (10 ≤ n → 48 < get_or (decimal (n / 10)) 0 0) → 48 < get_or (decimal n) 0 0
first_step true n e p h =
    let small = ltb-true n 10 e in
    rw (decimal_one n small, digit_code n small) (omega arith)
first_step false n e p h =
    let large = ltb-false n 10 e in
    rw (
      decimal_more n large,
      get_or-append (decimal (n / 10)) (digit (n % 10) ∷ []) 0 0 (some_digits (ltb (n / 10) 10) (n / 10) refl),
    )
    (h large)

first_below : (k n : ℕ) → n < k → 0 < n → 48 < get_or (decimal n) 0 0
first_below zero n h p = absurd (omega arith)
first_below (suc k) n h p = first_step (ltb n 10) n refl p (λ large. first_below k (n / 10) (omega arith) (omega arith))

-- the first character is above that of 0
pub no_leading_zero : (n : ℕ) → 0 < n → 48 < get_or (decimal n) 0 0
no_leading_zero n p = first_below (suc n) n (omega arith) p
