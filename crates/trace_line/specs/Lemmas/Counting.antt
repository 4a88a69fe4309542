-- Decimal numbers: what `decimal` wrote is read, and what was read was written so.
use Rattle.std.specs.Prelude.{ℕ, zero, suc, ◌+◌, ◌-◌, ◌*◌, ◌/◌, ◌%◌, ◌<◌, ◌≤◌, ◌^◌, ◌≡◌, Bool, cond, eqb, ltb, length, get_or, Some}
use Rattle.std.proofs.Math.Path.{refl, subst}
use Rattle.std.proofs.Common.{ap, sym, ◌∙◌}
use Rattle.std.proofs.Math.Bool.{true, false}
use mathlib.Core.List.{List, [], ◌∷◌, ◌++◌}
use native.Mathlib.Omega.{arith}
use borrow.Author.Tests.{lt-ltb, ltb-true, ltb-false, eqb-true, eqb-false}
use Rattle.laws.specs.Lemmas.Agree.{agree}
use Rattle.text_reading.specs.declared.Reading.{Reading}
use Rattle.text_reading.specs.Numbers.{nowhere, digit_value, digit_at, count_from, count_at, mark_at}
use Rattle.text_reading.specs.Found.{found}
use Rattle.text_reading.specs.Lemmas.Found.{none, some, lost_digit}
use Rattle.text_reading.specs.Lemmas.Counting.{count_full, count_end, count_more}
use Rattle.text_writing.specs.Numerals.{digit, decimal}
use Rattle.text_writing.specs.Lemmas.Texts.{decimal_one, decimal_more, decimal_length}
use Rattle.text_writing.specs.Theorems.Numerals.{value_after, decimal_value, no_leading_zero}
use Rattle.trace_line.specs.Fields.{cycles_of}
use Rattle.trace_line.specs.Lemmas.Standing.{Stands, stands_first, stands_second, stands_then, one_stands, mark_there, mark_read, DigitRead, digit_there, digit_read}

-- ---- what was written is read

digit_code : (d : ℕ) → d < 10 → digit d ≡ 48 + d
unfolding digit
digit_code d h = agree digit (λ k. 48 + k) 10 refl d h

-- the text consists of decimal digits
abbrev pub Decimals : List ℕ → Type 0
Decimals [] = Unit
Decimals (c ∷ t) = ((d : ℕ) × (d < 10) × (c ≡ digit d)) × Decimals t

decimals_last : (t : List ℕ) (d : ℕ) → Decimals t → d < 10 → Decimals (t ++ digit d ∷ [])
decimals_last [] d p h = ((d, h, refl), tt)
decimals_last (c ∷ t) d p h = (p.0, decimals_last t d p.1 h)

decimals_step : (n : ℕ) (b : Bool) → ltb n 10 ≡ b → (10 ≤ n → Decimals (decimal (n / 10))) → Decimals (decimal n)
decimals_step n true e h = rw (decimal_one n (ltb-true n 10 e)) ((n, ltb-true n 10 e, refl), tt)
decimals_step n false e h =
    rw (decimal_more n (ltb-false n 10 e)) (decimals_last (decimal (n / 10)) (n % 10) (h (ltb-false n 10 e)) (omega arith))

pub decimals_below : (k n : ℕ) → n < k → Decimals (decimal n)
decimals_below zero n h = absurd (omega arith)
decimals_below (suc k) n h = decimals_step n (ltb n 10) refl (λ large. decimals_below k (n / 10) (omega arith))

value_least : (t : List ℕ) (v : ℕ) → v ≤ value_after v t
value_least [] v = omega arith
value_least (c ∷ t) v = omega (arith, value_least t (10 * v + (c - 48)))

module _ (s : List ℕ) (j : ℕ) (below : j < nowhere) (ended : (digit_at 10 s j).next ≡ nowhere) where
  count_there : (t : List ℕ) (k i v : ℕ) → Decimals t → Stands s i t j → length t ≤ k → value_after v t ≤ nowhere
      → count_from k s i v ≡ record { value = value_after v t; next = j }
  count_there [] zero i v ds p few fits =
      let same : i ≡ j = omega (arith, p.ends) in
      count_full s i v 0 (omega arith) ∙ rw same
  count_there [] (suc k) i v ds p few fits =
      let same : i ≡ j = omega (arith, p.ends) in
      count_end s i v (suc k) (none _ (rw same ended)) ∙ rw same
  count_there (c ∷ t) zero i v ds p few fits = absurd (omega arith)
  count_there (c ∷ t) (suc k) i v ds p few fits =
      let code : c ≡ 48 + ds.0.0 = ds.0.2 ∙ digit_code ds.0.0 ds.0.1 in
      let here = subst (λ (x : ℕ). Stands s i (x ∷ []) (i + 1)) ds.0.2 (stands_first s i (c ∷ []) t j p) in
      let read = digit_there 10 s i ds.0.0 (i + 1) (omega arith) ds.0.1 here in
      let value : v * 10 + ds.0.0 ≡ 10 * v + (c - 48) = omega arith in
      let least = value_least t (10 * v + (c - 48)) in
      let found : Some (record { value = ds.0.0; next = i + 1 }) ≡ found (digit_at 10 s i) = rw read (some (record { value = ds.0.0; next = i + 1 }) (λ z. omega (arith, p.ends))) in
      count_more s i v {d = record { value = ds.0.0; next = i + 1 }} found (suc k) k (10 * v + (c - 48)) (omega arith) (omega arith) (omega arith)
      ∙ count_there t k (i + 1) (10 * v + (c - 48)) ds.1 (stands_second s i (c ∷ []) t j p) (omega arith) fits

  number_there : (t : List ℕ) → 0 < length t → Decimals t → Stands s 0 t j → length t ≤ 20 → value_after 0 t ≤ nowhere
      → count_at s 0 ≡ record { value = value_after 0 t; next = j }
  unfolding count_at
  number_there [] nonempty ds p few fits = absurd (omega arith)
  number_there (c ∷ t) nonempty ds p few fits =
      let code : c ≡ 48 + ds.0.0 = ds.0.2 ∙ digit_code ds.0.0 ds.0.1 in
      let here = subst (λ (x : ℕ). Stands s 0 (x ∷ []) (0 + 1)) ds.0.2 (stands_first s 0 (c ∷ []) t j p) in
      let value : ds.0.0 ≡ 10 * 0 + (c - 48) = omega arith in
      rw (digit_there 10 s 0 ds.0.0 (0 + 1) (omega arith) ds.0.1 here, value)
      (count_there t 19 (0 + 1) (10 * 0 + (c - 48)) ds.1 (stands_second s 0 (c ∷ []) t j p) (omega arith) fits)

-- the first character
first_of : (s t : List ℕ) (j : ℕ) → Stands s 0 t j → 48 < get_or t 0 0 → (get_or s 0 0 ≡ get_or t 0 0) × (0 < length t)
first_of s [] j p h = absurd (omega arith)
first_of s (c ∷ t) j p h = (ap (λ (l : List ℕ). get_or l 0 0) p.there, omega arith)

no_zero : (s : List ℕ) (b : Bool) → 48 < get_or s 0 0 → eqb (mark_at 48 s 0) nowhere ≡ b → mark_at 48 s 0 ≡ nowhere
no_zero s true h e = eqb-true (mark_at 48 s 0) nowhere e
no_zero s false h e = absurd (omega (arith, (one_stands s 0 48 (mark_at 48 s 0) (mark_read s 48 0 (eqb-false (mark_at 48 s 0) nowhere e))).1))

space_ends : (s : List ℕ) (j k : ℕ) → Stands s j (32 ∷ []) k → (digit_at 10 s j).next ≡ nowhere
unfolding digit_at digit_value
space_ends s j k p =
    let o = one_stands s j 32 k p in
    rw (lt-ltb j (length s) o.0, o.1)

zero_text : decimal 0 ≡ 48 ∷ []
unfolding digit
zero_text = decimal_one 0 (omega arith)

pub cycles_there : (s : List ℕ) (n j k : ℕ) → n < 2 ^ 64 → Stands s 0 (decimal n) j → Stands s j (32 ∷ []) k
    → cycles_of s ≡ record { value = n; next = j }
unfolding cycles_of
cycles_there s zero j k h p q =
    let zero_there = subst (λ (t : List ℕ). Stands s 0 t j) zero_text p in
    let one : j ≡ 1 = omega (arith, zero_there.ends) in
    rw (mark_there s 48 0 j zero_there, one)
cycles_there s (suc n) j k h p q =
    let large : 0 < suc n = omega arith in
    let first = first_of s (decimal (suc n)) j p (no_leading_zero (suc n) large) in
    let size = decimal_length 19 (suc n) (omega arith) in
    let ends : j ≡ 0 + length (decimal (suc n)) = p.ends in
    let value = decimal_value (suc n) in
    rw (no_zero s (eqb (mark_at 48 s 0) nowhere) (omega (arith, first.0, no_leading_zero (suc n) large)) refl)
    (number_there s j (omega arith) (space_ends s j k q) (decimal (suc n)) first.1 (decimals_below (suc (suc n)) (suc n) (omega arith)) p size
    (omega arith)
    ∙ rw value)

-- ---- what was read was written

-- a number with which the text begins
pub record NumberRead (s : List ℕ) (r : Reading ℕ) : Type 0 where
  pub small : r.value < 2 ^ 64
  pub stands : Stands s 0 (decimal r.value) r.next

-- the numeral with one digit more
decimal_next : (v d : ℕ) → 0 < v → d < 10 → decimal (v * 10 + d) ≡ decimal v ++ digit d ∷ []
decimal_next v d h l =
    let tenth : (v * 10 + d) / 10 ≡ v = omega arith in
    let last : (v * 10 + d) % 10 ≡ d = omega arith in
    decimal_more (v * 10 + d) (omega arith) ∙ rw (tenth, last)

abbrev more : List ℕ → ℕ → ℕ → Reading ℕ → Bool → Bool → Reading ℕ
more s at v next t u = cond t (record { value = v; next = at }) (cond u (record { value = 0; next = nowhere }) next)

count_read_by : (s : List ℕ) (at v : ℕ) (next : Reading ℕ) (t u : Bool) → v < 2 ^ 64 → Stands s 0 (decimal v) at
    → (t ≡ false → u ≡ false → (next.next ≡ nowhere → ⊥) → NumberRead s next)
    → ((more s at v next t u).next ≡ nowhere → ⊥)
    → NumberRead s (more s at v next t u)
count_read_by s at v next true u small p further h = record { small = small; stands = p }
count_read_by s at v next false true small p further h = absurd (h refl)
count_read_by s at v next false false small p further h = further refl refl h

count_read : (k : ℕ) (s : List ℕ) (at v : ℕ) → 0 < v → v < 2 ^ 64 → Stands s 0 (decimal v) at
    → ((count_from k s at v).next ≡ nowhere → ⊥) → NumberRead s (count_from k s at v)
unfolding count_from
count_read zero s at v some small p h = record { small = small; stands = p }
count_read (suc k) s at v some small p h =
    count_read_by s at v (count_from k s (digit_at 10 s at).next (v * 10 + (digit_at 10 s at).value)) (eqb (digit_at 10 s at).next nowhere)
    (ltb ((18446744073709551615 - (digit_at 10 s at).value) / 10) v)
    small
    p
    (λ e f.
    let read = digit_read 10 s at (omega arith) (eqb-false (digit_at 10 s at).next nowhere e) in
    let room = ltb-false ((18446744073709551615 - (digit_at 10 s at).value) / 10) v f in
    count_read k s (digit_at 10 s at).next (v * 10 + (digit_at 10 s at).value) (omega arith) (omega (arith, read.small))
    (rw (decimal_next v (digit_at 10 s at).value some read.small) (stands_then s p read.stands)))
    h

module _ (s : List ℕ) (fits : length s ≤ nowhere) where
  some_digit : (b : Bool) → eqb (digit_at 10 s 0).next nowhere ≡ b
      → ((count_from 19 s (digit_at 10 s 0).next (digit_at 10 s 0).value).next ≡ nowhere → ⊥) → (digit_at 10 s 0).next ≡ nowhere → ⊥
  some_digit b e h z =
      h (rw z (ap (λ (r : Reading ℕ). r.next) (count_end s nowhere (digit_at 10 s 0).value 19 (none _ (lost_digit s fits 10 nowhere refl)))))

  not_zero : mark_at 48 s 0 ≡ nowhere → (r : Reading ℕ) → DigitRead 10 s 0 r → (r.next ≡ nowhere → ⊥) → (b : Bool) → eqb r.value 0 ≡ b → 0 < r.value
  unfolding digit
  not_zero none r read h true e =
      let zero_there = subst (λ (v : ℕ). Stands s 0 (digit v ∷ []) r.next) (eqb-true r.value 0 e) read.stands in
      absurd (h (sym (mark_there s 48 0 r.next zero_there) ∙ none))
  not_zero none r read h false e = omega (arith, eqb-false r.value 0 e)

  number_read : mark_at 48 s 0 ≡ nowhere → ((count_at s 0).next ≡ nowhere → ⊥) → NumberRead s (count_at s 0)
  unfolding count_at
  number_read none h =
      let found = some_digit (eqb (digit_at 10 s 0).next nowhere) refl h in
      let read = digit_read 10 s 0 (omega arith) found in
      let some = not_zero none (digit_at 10 s 0) read found (eqb (digit_at 10 s 0).value 0) refl in
      count_read 19 s (digit_at 10 s 0).next (digit_at 10 s 0).value some (omega (arith, read.small))
      (rw (decimal_one (digit_at 10 s 0).value read.small) read.stands)
      h

  cycles_by : (b : Bool) → eqb (mark_at 48 s 0) nowhere ≡ b
      → ((cond b (count_at s 0) (record { value = 0; next = mark_at 48 s 0 })).next ≡ nowhere → ⊥)
      → NumberRead s (cond b (count_at s 0) (record { value = 0; next = mark_at 48 s 0 }))
  cycles_by true e h = number_read (eqb-true (mark_at 48 s 0) nowhere e) h
  cycles_by false e h = record { small = omega arith; stands = rw zero_text (mark_read s 48 0 h) }

  pub cycles_read : ((cycles_of s).next ≡ nowhere → ⊥) → NumberRead s (cycles_of s)
  unfolding cycles_of
  cycles_read h = cycles_by (eqb (mark_at 48 s 0) nowhere) refl h
