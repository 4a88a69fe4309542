-- Laws of Found.antt, and of readers in a row.
use Rattle.std.specs.Prelude.{ℕ, zero, suc, ◌+◌, ◌<◌, ◌≤◌, ◌≡◌, Bool, true, false, cond, eqb, ltb, List, length, get_or, Some, None}
use Rattle.std.proofs.Math.Path.{refl}
use Rattle.std.proofs.Common.{sym, arith, eq-eqb, ne_eqb, eqb-true, le-ltb, ltb-true, ltb-false}
use Rattle.std.proofs.lemmas.Bool.{eqb-false}
use Rattle.std.specs.Bool.{then_some}
use Rattle.text_reading.specs.declared.Reading.{Reading}
use Rattle.text_reading.specs.Numbers.{nowhere, no_digit, digit_value, digit_at, byte_at, word_at, count_from, count_at, mark_at}
use Rattle.text_reading.specs.Inner.Characters.{character_at, digit_found}
use Rattle.text_reading.specs.Found.{found, value_found, place_found}

-- what is none, and what is not, by the place
pub none_by : {A : Type 0} (a : A) (b : Bool) → cond b None (Some a) ≡ None → b ≡ true
none_by a true e = refl
none_by a false e = let z : ◌≡◌ {A = ℕ} 0 1 = cc in absurd (omega arith)

pub some_by : {A : Type 0} (a q : A) (b : Bool) → cond b None (Some a) ≡ Some q → (b ≡ false) × (a ≡ q)
some_by a q true e = let z : ◌≡◌ {A = ℕ} 0 1 = cc in absurd (omega arith)
some_by a q false e = (refl, cc)

module _ (r : Reading ℕ) where
  -- What was not found has no next place, and what was found is it.
  pub gone : None ≡ found r → r.next ≡ nowhere
  unfolding found
  gone e = eqb-true r.next nowhere (none_by r _ (sym e))

  pub none : r.next ≡ nowhere → None ≡ found r
  unfolding found
  none h = rw (eq-eqb r.next nowhere h)

  pub none_value : r.next ≡ nowhere → None ≡ value_found r
  unfolding value_found
  none_value h = rw (eq-eqb r.next nowhere h)

  pub got : {q : Reading ℕ} → Some q ≡ found r → r ≡ q
  unfolding found
  got {q} e = (some_by r q _ (sym e)).1

  pub somewhere : {q : Reading ℕ} → Some q ≡ found r → r.next ≡ nowhere → ⊥
  unfolding found
  somewhere {q} e = eqb-false r.next nowhere (some_by r q _ (sym e)).0

  pub some : (r.next ≡ nowhere → ⊥) → Some r ≡ found r
  unfolding found
  some h = rw (ne_eqb r.next nowhere h)

  pub some_value : (r.next ≡ nowhere → ⊥) → Some r.value ≡ value_found r
  unfolding value_found
  some_value h = rw (ne_eqb r.next nowhere h)

module _ (p : ℕ) where
  pub none_place : p ≡ nowhere → None ≡ place_found p
  unfolding place_found
  none_place h = rw (eq-eqb p nowhere h)

  pub some_place : (p ≡ nowhere → ⊥) → Some p ≡ place_found p
  unfolding place_found
  some_place h = rw (ne_eqb p nowhere h)

  pub gone_place : None ≡ place_found p → p ≡ nowhere
  unfolding place_found
  gone_place e = eqb-true p nowhere (none_by p _ (sym e))

  pub got_place : {q : ℕ} → Some q ≡ place_found p → p ≡ q
  unfolding place_found
  got_place {q} e = (some_by p q _ (sym e)).1

  pub somewhere_place : {q : ℕ} → Some q ≡ place_found p → p ≡ nowhere → ⊥
  unfolding place_found
  somewhere_place {q} e = eqb-false p nowhere (some_by p q _ (sym e)).0

-- A digit is below its base.
digit_small : (base : ℕ) (s : List ℕ) (at : ℕ) → 0 < base → (digit_at base s at).value < base
unfolding digit_at
digit_small base s at h = by_tests (ltb at (length s)) (ltb (digit_value (get_or s at 0)) base) refl
  where
    by_tests : (t u : Bool) → ltb (digit_value (get_or s at 0)) base ≡ u
        → (cond t (cond u (record { value = digit_value (get_or s at 0); next = at + 1 }) no_digit) no_digit).value < base
    by_tests false u e = h
    by_tests true false e = h
    by_tests true true e = ltb-true (digit_value (get_or s at 0)) base e

pub small_digit : (base : ℕ) (s : List ℕ) (at : ℕ) {d : Reading ℕ} → 0 < base → Some d ≡ found (digit_at base s at) → d.value < base
small_digit base s at h e = rw (← got _ e) (digit_small base s at h)

-- A reader that begins nowhere ends there.
module _ (s : List ℕ) (fits : length s ≤ nowhere) where
  pub lost_digit : (base at : ℕ) → at ≡ nowhere → (digit_at base s at).next ≡ nowhere
  unfolding digit_at
  lost_digit base at lost = rw (le-ltb at (length s) (omega arith))

  pub lost_byte : (at : ℕ) → at ≡ nowhere → (byte_at s at).next ≡ nowhere
  unfolding byte_at
  lost_byte at lost = lost_digit 16 _ (lost_digit 16 at lost)

  pub lost_word : (at : ℕ) → at ≡ nowhere → (word_at s at).next ≡ nowhere
  unfolding word_at
  lost_word at lost = lost_byte _ (lost_byte at lost)

  pub lost_mark : (mark at : ℕ) → at ≡ nowhere → mark_at mark s at ≡ nowhere
  unfolding mark_at
  lost_mark mark at lost = rw (le-ltb at (length s) (omega arith))

  lost_more : (n at v : ℕ) → at ≡ nowhere → (count_from n s at v).next ≡ nowhere
  unfolding count_from
  lost_more zero at v lost = lost
  lost_more (suc n) at v lost = rw (eq-eqb _ nowhere (lost_digit 10 at lost)) lost

  pub lost_count_after : (at : ℕ) → (digit_at 10 s at).next ≡ nowhere → (count_at s at).next ≡ nowhere
  unfolding count_at
  lost_count_after at lost = lost_more 19 _ _ lost

  pub lost_count : (at : ℕ) → at ≡ nowhere → (count_at s at).next ≡ nowhere
  lost_count at lost = lost_count_after at (lost_digit 10 at lost)

-- ---- what the code makes of a character

-- a place of a text that may be its end
pub near : (r : Reading ℕ) → r.next ≤ nowhere → then_some (ltb r.next nowhere) r ≡ found r
near r h = by_test (ltb r.next nowhere) refl
  where
    by_test : (b : Bool) → ltb r.next nowhere ≡ b → then_some b r ≡ found r
    by_test true e = some r (λ z. omega (arith, ltb-true r.next nowhere e))
    by_test false e = none r (omega (arith, ltb-false r.next nowhere e))

module _ (s : List ℕ) (at : ℕ) where
  abbrev character : Bool → Reading ℕ
  character t = cond t (record { value = get_or s at 0; next = at + 1 }) no_digit

  pub no_mark : (mark : ℕ) → (character_at s at).next ≡ nowhere → None ≡ place_found (mark_at mark s at)
  unfolding mark_at
  no_mark mark h = none_place _ (by_tests (ltb at (length s)) (eqb (get_or s at 0) mark) h)
    where
      by_tests : (t u : Bool) → (character t).next ≡ nowhere → cond t (cond u (at + 1) nowhere) nowhere ≡ nowhere
      by_tests false u g = refl
      by_tests true false g = refl
      by_tests true true g = g

  pub mark_there : (mark : ℕ) → ((character_at s at).next ≡ nowhere → ⊥)
      → then_some (eqb (character_at s at).value mark) (character_at s at).next ≡ place_found (mark_at mark s at)
  unfolding mark_at
  mark_there mark h = by_tests (ltb at (length s)) h
    where
      by_mark : (u : Bool) → (at + 1 ≡ nowhere → ⊥) → then_some u (at + 1) ≡ place_found (cond u (at + 1) nowhere)
      by_mark true g = some_place (at + 1) g
      by_mark false g = none_place nowhere refl

      by_tests : (t : Bool) → ((character t).next ≡ nowhere → ⊥)
          → then_some (eqb (character t).value mark) (character t).next ≡ place_found (cond t (cond (eqb (get_or s at 0) mark) (at + 1) nowhere) nowhere)
      by_tests false g = absurd (g refl)
      by_tests true g = by_mark (eqb (get_or s at 0) mark) g

  module _ (base : ℕ) where
    abbrev digit : Bool → Bool → Reading ℕ
    digit t u = cond t (cond u (record { value = digit_value (get_or s at 0); next = at + 1 }) no_digit) no_digit

    pub no_digit_there : (character_at s at).next ≡ nowhere → None ≡ found (digit_at base s at)
    unfolding digit_at
    no_digit_there h = none _ (by_tests (ltb at (length s)) (ltb (digit_value (get_or s at 0)) base) h)
      where
        by_tests : (t u : Bool) → (character t).next ≡ nowhere → (digit t u).next ≡ nowhere
        by_tests false u g = refl
        by_tests true false g = refl
        by_tests true true g = g

    pub other_there : base ≤ 16 → None ≡ digit_found (digit_value (character_at s at).value) → None ≡ found (digit_at base s at)
    unfolding digit_at
    other_there h e = none _ (by_tests (ltb at (length s)) e)
      where
        by_tests : (t : Bool) → None ≡ digit_found (digit_value (character t).value) → (digit t (ltb (digit_value (get_or s at 0)) base)).next ≡ nowhere
        by_tests false g = refl
        by_tests true g =
            let none : digit_value (get_or s at 0) ≡ 16 = eqb-true (digit_value (get_or s at 0)) 16 (none_by (digit_value (get_or s at 0)) _ (sym g)) in
            rw (none, le-ltb 16 base h)

    pub digit_there : {v : ℕ} → ((character_at s at).next ≡ nowhere → ⊥) → Some v ≡ digit_found (digit_value (character_at s at).value)
        → then_some (ltb v base) (record { value = v; next = (character_at s at).next }) ≡ found (digit_at base s at)
    unfolding digit_at
    digit_there {v} h e = by_tests (ltb at (length s)) h (some_by _ v _ (sym e)).1
      where
        by_digit : (u : Bool) → (at + 1 ≡ nowhere → ⊥)
            → then_some u (record { value = digit_value (get_or s at 0); next = at + 1 }) ≡ found (digit true u)
        by_digit true g = some _ g
        by_digit false g = none no_digit refl

        by_tests : (t : Bool) → ((character t).next ≡ nowhere → ⊥) → digit_value (character t).value ≡ v
            → then_some (ltb v base) (record { value = v; next = (character t).next }) ≡ found (digit t (ltb (digit_value (get_or s at 0)) base))
        by_tests false g same = absurd (g refl)
        by_tests true g same = rw (← same) (by_digit (ltb (digit_value (get_or s at 0)) base) g)

-- ---- a whole text

module _ (r : Reading ℕ) (size : ℕ) where
  abbrev all : Bool → Reading ℕ
  all b = cond b r (record { value = 0; next = nowhere })

  pub not_whole : r.next ≡ nowhere → None ≡ value_found (all (eqb r.next size))
  not_whole h = none_value _ (by_test (eqb r.next size))
    where
      by_test : (b : Bool) → (all b).next ≡ nowhere
      by_test true = h
      by_test false = refl

  pub whole : (r.next ≡ nowhere → ⊥) → cond (eqb r.next size) (Some r.value) None ≡ value_found (all (eqb r.next size))
  whole h = by_test (eqb r.next size)
    where
      by_test : (b : Bool) → cond b (Some r.value) None ≡ value_found (all b)
      by_test true = some_value r h
      by_test false = none_value _ refl
