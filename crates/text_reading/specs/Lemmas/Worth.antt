-- What two digits are worth, whatever stands there.
use Rattle.std.specs.Prelude.{ℕ, suc, ◌+◌, ◌*◌, ◌<◌, ◌≤◌, ◌≡◌, refl, Bool, true, false, cond, eqb, ltb, List, [], ◌∷◌, length, get_or, Option, Some, None, IfSome}
use Rattle.std.proofs.Common.{sym, arith, rules, lt-ltb, le-ltb, eqb-true}
use Rattle.std.proofs.lemmas.Bool.{eqb-false}
use Rattle.text_reading.specs.Numbers.{nowhere, no_digit, digits, place_in, digit_value, digit_at, byte_at}
use Rattle.text_reading.specs.Inner.Characters.{digit_found, digit_worth}
use Rattle.text_reading.specs.Lemmas.Found.{some_by, none_by}

place_within : (ds : List ℕ) (b : ℕ) → place_in ds b ≤ length ds
place_within [] b = omega arith
place_within (d ∷ ds) b = by_test (eqb b d) (place_within ds b)
  where
    by_test : (t : Bool) → place_in ds b ≤ length ds → cond t 0 (suc (place_in ds b)) ≤ suc (length ds)
    by_test true h = omega arith
    by_test false h = omega arith

at_most_16 : (b : ℕ) → digit_value b ≤ 16
unfolding digit_value
at_most_16 b = place_within digits b

below_16 : (b : ℕ) → eqb (digit_value b) 16 ≡ false → digit_value b < 16
below_16 b e =
    let other : digit_value b ≡ 16 → ⊥ = eqb-false (digit_value b) 16 e in
    let most : digit_value b ≤ 16 = at_most_16 b in
    omega arith

-- A digit's value is below 16.
pub small_found : (b : ℕ) {q : Option ℕ} → q ≡ digit_found (digit_value b) → IfSome q (λ v. v < 16)
small_found b {q} e = rw e (by_test (eqb (digit_value b) 16) refl)
  where
    by_test : (t : Bool) → eqb (digit_value b) 16 ≡ t → IfSome (cond t None (Some (digit_value b))) (λ v. v < 16)
    by_test true e = search rules
    by_test false e = search (rules, below_16 b e)

module _ (s : List ℕ) where
  pub worth_none : (at : ℕ) → None ≡ digit_worth s at → digit_at 16 s at ≡ no_digit
  unfolding digit_at
  worth_none at e = by_test (ltb at (length s)) e
    where
      by_test : (t : Bool) → None ≡ cond t (digit_found (digit_value (get_or s at 0))) None
          → cond t (cond (ltb (digit_value (get_or s at 0)) 16) (record { value = digit_value (get_or s at 0); next = at + 1 }) no_digit) no_digit ≡ no_digit
      by_test false g = refl
      by_test true g =
          let e : digit_value (get_or s at 0) ≡ 16 = eqb-true (digit_value (get_or s at 0)) 16 (none_by (digit_value (get_or s at 0)) _ (sym g)) in
          let n : 16 ≤ digit_value (get_or s at 0) = omega arith in
          rw (le-ltb (digit_value (get_or s at 0)) 16 n)

  pub worth_some : (at : ℕ) {v : ℕ} → Some v ≡ digit_worth s at → digit_at 16 s at ≡ record { value = v; next = at + 1 }
  unfolding digit_at
  worth_some at {v} e = by_test (ltb at (length s)) e
    where
      by_test : (t : Bool) → Some v ≡ cond t (digit_found (digit_value (get_or s at 0))) None
          → cond t (cond (ltb (digit_value (get_or s at 0)) 16) (record { value = digit_value (get_or s at 0); next = at + 1 }) no_digit) no_digit ≡ record { value = v; next = at + 1 }
      by_test false g = let z : ◌≡◌ {A = ℕ} 0 1 = cc in absurd (omega arith)
      by_test true g =
          let both = some_by (digit_value (get_or s at 0)) v _ (sym g) in
          rw (lt-ltb (digit_value (get_or s at 0)) 16 (below_16 (get_or s at 0) both.0), both.1)

  -- The two digits: what is no digit, and what follows it, counts as 0.
  pub byte_none : (at : ℕ) → length s ≤ nowhere → None ≡ digit_worth s at → 0 ≡ (byte_at s at).value
  unfolding byte_at digit_at
  byte_none at h e = rw (worth_none at e, le-ltb nowhere (length s) h)

  pub byte_high : (at : ℕ) {v : ℕ} → Some v ≡ digit_worth s at → None ≡ digit_worth s (at + 1) → v * 16 ≡ (byte_at s at).value
  unfolding byte_at
  byte_high at e f = rw (worth_some at e, worth_none (at + 1) f) (omega arith)

  pub byte_both : (at : ℕ) {v w : ℕ} → Some v ≡ digit_worth s at → Some w ≡ digit_worth s (at + 1) → v * 16 + w ≡ (byte_at s at).value
  unfolding byte_at
  byte_both at e f = rw (worth_some at e, worth_some (at + 1) f)
