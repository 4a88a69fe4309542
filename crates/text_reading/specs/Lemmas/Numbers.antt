-- Laws of Numbers.antt.
use Rattle.std.specs.Prelude.{ℕ, ◌+◌, ◌-◌, ◌<◌, ◌≤◌, ◌≡◌, refl, cond, leb, ltb, Some, None}
use Rattle.std.proofs.Common.{arith, sym, ◌∙◌, lt-ltb, le-ltb, ne_eqb}
use borrow.Author.Tests.{le-leb, lt-leb}
use Rattle.laws.specs.Lemmas.Agree.{agree}
use Rattle.text_reading.specs.Numbers.{digit_value}
use Rattle.text_reading.specs.Inner.Characters.{digit_found}

-- the same by ranges, as the code tests them
abbrev pub value_by_range : ℕ → ℕ
value_by_range b =
    cond (ltb b 48) 16
    (cond (leb b 57) (b - 48)
    (cond (ltb b 65) 16
    (cond (leb b 70) (b - 65 + 10) 16)))

pub by_range : (b : ℕ) → b < 256 → digit_value b ≡ value_by_range b
unfolding digit_value
by_range = agree digit_value value_by_range 256 refl

module _ (b : ℕ) where
  pub figure : 48 ≤ b → b ≤ 57 → Some (b - 48) ≡ digit_found (digit_value b)
  figure h k =
      let v : b - 48 ≡ digit_value b = sym (by_range b (omega arith) ∙ rw (le-ltb b 48 h, le-leb b 57 k)) in
      rw (← v, ne_eqb (b - 48) 16 (λ e. omega arith))

  pub letter : 65 ≤ b → b ≤ 70 → Some (b - 65 + 10) ≡ digit_found (digit_value b)
  letter h k =
      let v : b - 65 + 10 ≡ digit_value b = sym (by_range b (omega arith) ∙ rw (le-ltb b 48 (omega arith), lt-leb b 57 (omega arith), le-ltb b 65 h, le-leb b 70 k)) in
      rw (← v, ne_eqb (b - 65 + 10) 16 (λ e. omega arith))

  pub below : b < 48 → None ≡ digit_found (digit_value b)
  below h = rw (by_range b (omega arith), lt-ltb b 48 h)

  pub between : 57 < b → b < 65 → None ≡ digit_found (digit_value b)
  between h k = rw (by_range b (omega arith), le-ltb b 48 (omega arith), lt-leb b 57 h, lt-ltb b 65 k)

  pub above : 70 < b → b < 256 → None ≡ digit_found (digit_value b)
  above h k = rw (by_range b k, le-ltb b 48 (omega arith), lt-leb b 57 (omega arith), le-ltb b 65 (omega arith), lt-leb b 70 h)
