-- A text that stands at a place of another, and what the readers of `reading` make of it. Each reader has two laws: what stands there is
-- read, and what was read stood there.
use Rattle.std.specs.Prelude.{ℕ, suc, ◌+◌, ◌*◌, ◌/◌, ◌%◌, ◌<◌, ◌≤◌, ◌≡◌, refl, Bool, true, false, cond, eqb, ltb, length, get_or, drop}
use Rattle.std.proofs.Common.{ap, sym, ◌∙◌, add-zero, add-one, length-append, drop-drop, drop_at, drop-cons, get_or-drop, lt-ltb, ltb-true, eq-eqb, eqb-true}
use mathlib.Core.List.{List, [], ◌∷◌, ◌++◌, append_assoc}
use native.Mathlib.Omega.{arith}
use Rattle.laws.specs.Lemmas.Agree.{agree}
use Rattle.text_reading.specs.declared.Reading.{Reading}
use Rattle.text_reading.specs.Numbers.{nowhere, digits, place_in, digit_value, no_digit, digit_at, byte_at, word_at, mark_at}
use Rattle.text_writing.specs.Numerals.{digit, hex2, hex4}
use Rattle.trace_line.specs.Fields.{field_at}

-- the text t stands in s from i to j
pub record Stands (s : List ℕ) (i : ℕ) (t : List ℕ) (j : ℕ) : Type 0 where
  pub ends : j ≡ i + length t
  pub inside : j ≤ length s
  pub there : drop i s ≡ t ++ drop j s

pub stands_then : (s : List ℕ) {t u : List ℕ} {i j k : ℕ} → Stands s i t j → Stands s j u k → Stands s i (t ++ u) k
stands_then s {t} {u} {i} {j} {k} p q =
    record {
      ends = omega (arith, p.ends, q.ends, length-append t u);
      inside = q.inside;
      there = p.there ∙ ap (λ (l : List ℕ). t ++ l) q.there ∙ sym (append_assoc t u (drop k s));
    }

module _ (s : List ℕ) (i : ℕ) (t u : List ℕ) (k : ℕ) (p : Stands s i (t ++ u) k) where
  second_part : drop (i + length t) s ≡ u ++ drop k s
  second_part =
      sym (drop-drop (length t) i s)
      ∙ ap (λ (l : List ℕ). drop (length t) l) (p.there ∙ append_assoc t u (drop k s))
      ∙ drop_at t (u ++ drop k s) (length t) refl

  pub stands_first : Stands s i t (i + length t)
  stands_first =
      record {
        ends = refl;
        inside = omega (arith, p.ends, p.inside, length-append t u);
        there = p.there ∙ append_assoc t u (drop k s) ∙ ap (λ (l : List ℕ). t ++ l) (sym second_part);
      }

  pub stands_second : Stands s (i + length t) u k
  stands_second = record { ends = omega (arith, p.ends, length-append t u); inside = p.inside; there = second_part }

-- ---- one character

pub stands_one : (s : List ℕ) (i c : ℕ) → i < length s → get_or s i 0 ≡ c → Stands s i (c ∷ []) (i + 1)
stands_one s i c h e = record { ends = refl; inside = omega arith; there = drop-cons s i 0 h ∙ rw (e, add-one i) }

pub one_stands : (s : List ℕ) (i c j : ℕ) → Stands s i (c ∷ []) j → (i < length s) × (get_or s i 0 ≡ c) × (j ≡ i + 1)
one_stands s i c j p =
    (omega (arith, p.ends, p.inside), rw (get_or-drop, add-zero) at (ap (λ (l : List ℕ). get_or l 0 0) p.there), p.ends)

pub mark_there : (s : List ℕ) (c i j : ℕ) → Stands s i (c ∷ []) j → mark_at c s i ≡ j
unfolding mark_at
mark_there s c i j p =
    let o = one_stands s i c j p in
    rw (lt-ltb i (length s) o.0, o.1, eq-eqb c c refl) (sym o.2)

mark_by : (s : List ℕ) (c i : ℕ) (t u : Bool) → ltb i (length s) ≡ t → eqb (get_or s i 0) c ≡ u
    → (cond t (cond u (i + 1) nowhere) nowhere ≡ nowhere → ⊥)
    → Stands s i (c ∷ []) (cond t (cond u (i + 1) nowhere) nowhere)
mark_by s c i false u e f h = absurd (h refl)
mark_by s c i true false e f h = absurd (h refl)
mark_by s c i true true e f h = stands_one s i c (ltb-true i (length s) e) (eqb-true (get_or s i 0) c f)

pub mark_read : (s : List ℕ) (c i : ℕ) → (mark_at c s i ≡ nowhere → ⊥) → Stands s i (c ∷ []) (mark_at c s i)
unfolding mark_at
mark_read s c i h = mark_by s c i (ltb i (length s)) (eqb (get_or s i 0) c) refl refl h

-- ---- digits

pub digit_value_lem : (d : ℕ) → d < 16 → digit_value (digit d) ≡ d
unfolding digit_value digit
digit_value_lem = agree (λ d. digit_value (digit d)) (λ d. d) 16 refl

at_its_place : (ds : List ℕ) (b : ℕ) → place_in ds b < length ds → get_or ds (place_in ds b) 0 ≡ b
at_its_place [] b h = absurd (omega arith)
at_its_place (d ∷ ds) b h = by_test (eqb b d) refl h (at_its_place ds b)
  where
    by_test : (t : Bool) → eqb b d ≡ t → cond t 0 (suc (place_in ds b)) < suc (length ds)
        → (place_in ds b < length ds → get_or ds (place_in ds b) 0 ≡ b) → get_or (d ∷ ds) (cond t 0 (suc (place_in ds b))) 0 ≡ b
    by_test true e g further = sym (eqb-true b d e)
    by_test false e g further = further (omega arith)

pub value_digit : (c : ℕ) → digit_value c < 16 → digit (digit_value c) ≡ c
unfolding digit_value digit
value_digit c h = at_its_place digits c h

pub digit_there : (base : ℕ) (s : List ℕ) (i d j : ℕ) → base ≤ 16 → d < base → Stands s i (digit d ∷ []) j
    → digit_at base s i ≡ record { value = d; next = j }
unfolding digit_at
digit_there base s i d j few h p =
    let o = one_stands s i (digit d) j p in
    rw (lt-ltb i (length s) o.0, o.1, digit_value_lem d (omega arith), lt-ltb d base h, o.2)

-- a digit that was read
pub record DigitRead (base : ℕ) (s : List ℕ) (i : ℕ) (r : Reading ℕ) : Type 0 where
  pub small : r.value < base
  pub stands : Stands s i (digit r.value ∷ []) r.next

digit_by : (base : ℕ) (s : List ℕ) (i : ℕ) (t u : Bool) → base ≤ 16 → ltb i (length s) ≡ t → ltb (digit_value (get_or s i 0)) base ≡ u
    → ((cond t (cond u (record { value = digit_value (get_or s i 0); next = i + 1 }) no_digit) no_digit).next ≡ nowhere → ⊥)
    → DigitRead base s i (cond t (cond u (record { value = digit_value (get_or s i 0); next = i + 1 }) no_digit) no_digit)
digit_by base s i false u few e f h = absurd (h refl)
digit_by base s i true false few e f h = absurd (h refl)
digit_by base s i true true few e f h =
    let small : digit_value (get_or s i 0) < base = ltb-true (digit_value (get_or s i 0)) base f in
    record {
      small = small;
      stands = stands_one s i (digit (digit_value (get_or s i 0))) (ltb-true i (length s) e) (sym (value_digit (get_or s i 0) (omega arith)));
    }

pub digit_read : (base : ℕ) (s : List ℕ) (i : ℕ) → base ≤ 16 → ((digit_at base s i).next ≡ nowhere → ⊥) → DigitRead base s i (digit_at base s i)
unfolding digit_at
digit_read base s i few h = digit_by base s i (ltb i (length s)) (ltb (digit_value (get_or s i 0)) base) few refl refl h

-- ---- bytes and words

module _ (s : List ℕ) (i b j : ℕ) (small : b < 256) (p : Stands s i (hex2 b) j) where
  pub byte_there : byte_at s i ≡ record { value = b; next = j }
  unfolding byte_at
  byte_there =
      let high = stands_first s i (digit (b / 16) ∷ []) (digit (b % 16) ∷ []) j p in
      let low = stands_second s i (digit (b / 16) ∷ []) (digit (b % 16) ∷ []) j p in
      let both : b / 16 * 16 + b % 16 ≡ b = omega arith in
      rw (digit_there 16 s i (b / 16) (i + 1) (omega arith) (omega arith) high, digit_there 16 s (i + 1) (b % 16) j (omega arith) (omega arith) low, both)

-- a byte that was read, and a word
pub record ByteRead (s : List ℕ) (i : ℕ) (r : Reading ℕ) : Type 0 where
  pub small : r.value < 256
  pub stands : Stands s i (hex2 r.value) r.next

pub record WordRead (s : List ℕ) (i : ℕ) (r : Reading ℕ) : Type 0 where
  pub small : r.value < 65536
  pub stands : Stands s i (hex4 r.value) r.next

-- what stands at a place ends inside the text, so that it does not begin at no place
pub somewhere : (s : List ℕ) (i c j : ℕ) (t : List ℕ) → length s ≤ nowhere → Stands s i (c ∷ t) j → i ≡ nowhere → ⊥
somewhere s i c j t fits p e = omega (arith, p.ends, p.inside)

two_digits_lem : (s : List ℕ) (i : ℕ) (high low : Reading ℕ) → DigitRead 16 s i high → DigitRead 16 s high.next low
    → ByteRead s i (record { value = high.value * 16 + low.value; next = low.next })
two_digits_lem s i high low p q =
    let first : (high.value * 16 + low.value) / 16 ≡ high.value = omega (arith, p.small, q.small) in
    let second : (high.value * 16 + low.value) % 16 ≡ low.value = omega (arith, p.small, q.small) in
    record { small = omega (arith, p.small, q.small); stands = rw (first, second) (stands_then s p.stands q.stands) }

two_bytes : (s : List ℕ) (i : ℕ) (high low : Reading ℕ) → ByteRead s i high → ByteRead s high.next low
    → WordRead s i (record { value = high.value * 256 + low.value; next = low.next })
two_bytes s i high low p q =
    let first : (high.value * 256 + low.value) / 256 ≡ high.value = omega (arith, p.small, q.small) in
    let second : (high.value * 256 + low.value) % 256 ≡ low.value = omega (arith, p.small, q.small) in
    record { small = omega (arith, p.small, q.small); stands = rw (first, second) (stands_then s p.stands q.stands) }

module _ (s : List ℕ) (fits : length s ≤ nowhere) where
  pub byte_read : (i : ℕ) → ((byte_at s i).next ≡ nowhere → ⊥) → ByteRead s i (byte_at s i)
  unfolding byte_at
  byte_read i h =
      let low = digit_read 16 s (digit_at 16 s i).next (omega arith) h in
      two_digits_lem s i (digit_at 16 s i) (digit_at 16 s (digit_at 16 s i).next)
      (digit_read 16 s i (omega arith) (somewhere s (digit_at 16 s i).next _ _ [] fits low.stands))
      low

  pub word_read : (i : ℕ) → ((word_at s i).next ≡ nowhere → ⊥) → WordRead s i (word_at s i)
  unfolding word_at
  word_read i h =
      let low = byte_read (byte_at s i).next h in
      two_bytes s i (byte_at s i) (byte_at s (byte_at s i).next)
      (byte_read i (somewhere s (byte_at s i).next _ _ _ fits low.stands))
      low

module _ (s : List ℕ) (i w j : ℕ) (small : w < 65536) (p : Stands s i (hex4 w) j) where
  pub word_there : word_at s i ≡ record { value = w; next = j }
  unfolding word_at
  word_there =
      let both : w / 256 * 256 + w % 256 ≡ w = omega arith in
      rw (
        byte_there s i (w / 256) (i + 2) (omega arith) (stands_first s i (hex2 (w / 256)) (hex2 (w % 256)) j p),
        byte_there s (i + 2) (w % 256) j (omega arith) (stands_second s i (hex2 (w / 256)) (hex2 (w % 256)) j p),
        both,
      )

-- ---- a space and a byte

pub field_there : (s : List ℕ) (i b j : ℕ) → b < 256 → Stands s i (32 ∷ hex2 b) j → field_at s i ≡ record { value = b; next = j }
unfolding field_at
field_there s i b j small p =
    rw (mark_there s 32 i (i + 1) (stands_first s i (32 ∷ []) (hex2 b) j p)) (byte_there s (i + 1) b j small (stands_second s i (32 ∷ []) (hex2 b) j p))

pub record FieldRead (s : List ℕ) (i : ℕ) (r : Reading ℕ) : Type 0 where
  pub small : r.value < 256
  pub stands : Stands s i (32 ∷ hex2 r.value) r.next

pub field_read : (s : List ℕ) → length s ≤ nowhere → (i : ℕ) → ((field_at s i).next ≡ nowhere → ⊥) → FieldRead s i (field_at s i)
unfolding field_at
field_read s fits i h =
    let b = byte_read s fits (mark_at 32 s i) h in
    let m = mark_read s 32 i (somewhere s (mark_at 32 s i) _ _ _ fits b.stands) in
    record { small = b.small; stands = stands_then s m b.stands }
