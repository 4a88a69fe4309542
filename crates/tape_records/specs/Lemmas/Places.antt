-- Laws between the numbers that the code reads at a place and the definition, which speaks of the text from there on.
use Rattle.std.specs.Prelude.{◌≡◌, ℕ, zero, suc, ◌+◌, ◌-◌, ◌*◌, ◌%◌, ◌<◌, ◌≤◌, Bool, true, false, cond, List, [], ◌∷◌, ◌++◌, length, take, drop, ◌≢◌, nat_lt, slice_index, slice_index_or, refl}
use Rattle.std.proofs.Common.{ap, ◌∙◌, add-zero, zero-add, suc-add, length-drop, get_or-drop, drop-drop, lt-ltb, le-ltb}
use Rattle.std.proofs.Math.Option.{Option, none, some}
use native.Mathlib.Omega.{arith}
use Rattle.text_reading.specs.declared.Reading.{Reading}
use Rattle.text_reading.specs.Numbers.{nowhere, digit_value, no_digit, digit_at, byte_at, word_at}
use Rattle.tape_records.specs.Records.{byte_of, before, bytes_of, word, total}
use Rattle.tape_records.specs.Inner.Reading.{summed}

-- a byte that was read at a place: its value and the place after it, or no place
abbrev pub ByteAt : Option ℕ → ℕ → Reading ℕ → Type 0
ByteAt none at r = r.next ≡ nowhere
ByteAt (some b) at r = r ≡ record { value = b; next = at + 2 }

module _ (s : List ℕ) (fits : length s ≤ nowhere) where
  digit_out : (i : ℕ) → length s ≤ i → digit_at 16 s i ≡ no_digit
  unfolding digit_at
  digit_out i h = rw (le-ltb i (length s) h)

  digit_in : (i c : ℕ) (t : Bool) → i < length s → slice_index s i ≡ c → nat_lt (digit_value c) 16 ≡ t
      → digit_at 16 s i ≡ cond t (record { value = digit_value c; next = i + 1 }) no_digit
  unfolding digit_at
  digit_in i c t h e f = rw (lt-ltb i (length s) h, e, f)

  byte_none : (i : ℕ) → digit_at 16 s i ≡ no_digit → (byte_at s i).next ≡ nowhere
  unfolding byte_at
  byte_none i e = rw (e, digit_out nowhere fits)

  one_digit : (i c : ℕ) (t : Bool) → i < length s → length s ≤ i + 1 → slice_index s i ≡ c → nat_lt (digit_value c) 16 ≡ t
      → (byte_at s i).next ≡ nowhere
  unfolding byte_at
  one_digit i c false h g e f = byte_none i (digit_in i c false h e f)
  one_digit i c true h g e f = rw (digit_in i c true h e f, digit_out (i + 1) g)

  two_digits_lem : (i c d : ℕ) (t u : Bool) → i + 1 < length s → slice_index s i ≡ c → slice_index s (i + 1) ≡ d
      → nat_lt (digit_value c) 16 ≡ t → nat_lt (digit_value d) 16 ≡ u
      → ByteAt (cond t (cond u (some (digit_value c * 16 + digit_value d)) none) none) i (byte_at s i)
  unfolding byte_at
  two_digits_lem i c d false u h e g p q = byte_none i (digit_in i c false (omega arith) e p)
  two_digits_lem i c d true false h e g p q = rw (digit_in i c true (omega arith) e p, digit_in (i + 1) d false h g q)
  two_digits_lem i c d true true h e g p q =
      let two : i + 1 + 1 ≡ i + 2 = omega arith in
      rw (digit_in i c true (omega arith) e p, digit_in (i + 1) d true h g q, two)

  byte_of_lem : (i : ℕ) (l : List ℕ) → drop i s ≡ l → ByteAt (byte_of l) i (byte_at s i)
  byte_of_lem i [] e = byte_none i (digit_out i (omega (arith, simp length-drop at (ap length e))))
  byte_of_lem i (c ∷ []) e =
      let size : length s - i ≡ 1 = simp length-drop at (ap length e) in
      let first : slice_index_or s i 0 ≡ c = rw (get_or-drop, add-zero) at (ap (λ (l : List ℕ). slice_index l 0) e) in
      one_digit i c (nat_lt (digit_value c) 16) (omega arith) (omega arith) first refl
  byte_of_lem i (c ∷ d ∷ l) e =
      let size : length s - i ≡ suc (suc (length l)) = simp length-drop at (ap length e) in
      let first : slice_index_or s i 0 ≡ c = rw (get_or-drop, add-zero) at (ap (λ (l : List ℕ). slice_index l 0) e) in
      let second : slice_index_or s (i + 1) 0 ≡ d = rw get_or-drop at (ap (λ (l : List ℕ). slice_index l 1) e) in
      two_digits_lem i c d (nat_lt (digit_value c) 16) (nat_lt (digit_value d) 16) (omega arith) first second refl refl

  -- What read_byte answers.
  pub byte_at_lem : (i : ℕ) → ByteAt (byte_of (drop i s)) i (byte_at s i)
  byte_at_lem i = byte_of_lem i (drop i s) refl

  pub past_byte : (byte_at s nowhere).next ≡ nowhere
  past_byte = byte_none nowhere (digit_out nowhere fits)

  -- a turn of a loop over bytes
  pub some_byte : (i : ℕ) (o : Option ℕ) → ByteAt o i (byte_at s i) → ((byte_at s i).next ≢ nowhere)
      → (o ≡ some (byte_at s i).value) × ((byte_at s i).next ≡ i + 2)
  some_byte i none h g = absurd (g h)
  some_byte i (some b) h g = (rw h, rw h)

  pub no_byte : (i : ℕ) (o : Option ℕ) → ByteAt o i (byte_at s i) → i + 2 < nowhere → (byte_at s i).next ≡ nowhere → o ≡ none
  no_byte i none h l g = refl
  no_byte i (some b) h l g = let z : i + 2 ≡ nowhere = rw h at g in absurd (omega arith)

  module _ (i n : ℕ) (more : 0 < n) where
    pub bytes_none : i + 2 < nowhere → (byte_at s i).next ≡ nowhere → bytes_of n (drop i s) ≡ none
    bytes_none l g = turn n more
      where
        turn : (n : ℕ) → 0 < n → bytes_of n (drop i s) ≡ none
        turn zero h = absurd (omega arith)
        turn (suc n) h = rw (no_byte i (byte_of (drop i s)) (byte_at_lem i) l g)

    pub bytes_more : ((byte_at s i).next ≢ nowhere)
        → (bytes_of n (drop i s) ≡ before (some (byte_at s i).value) (bytes_of (n - 1) (drop (i + 2) s))) × ((byte_at s i).next ≡ i + 2)
    bytes_more g = turn n more
      where
        turn : (n : ℕ) → 0 < n
            → (bytes_of n (drop i s) ≡ before (some (byte_at s i).value) (bytes_of (n - 1) (drop (i + 2) s))) × ((byte_at s i).next ≡ i + 2)
        turn zero h = absurd (omega arith)
        turn (suc n) h =
            let found = some_byte i (byte_of (drop i s)) (byte_at_lem i) g in
            let one : suc n - 1 ≡ n = omega arith in
            (rw (found.0, one, drop-drop 2 i s), found.1)

-- a word, in the same way
abbrev pub WordAt : Option (List ℕ) → ℕ → Reading ℕ → Type 0
WordAt none at r = r.next ≡ nowhere
WordAt (some bs) at r = r ≡ record { value = word bs; next = at + 4 }

module _ (s : List ℕ) (fits : length s ≤ nowhere) where
  word_by : (i : ℕ) (o p : Option ℕ) → ByteAt o i (byte_at s i) → ByteAt p (i + 2) (byte_at s (i + 2))
      → WordAt (before o (before p (some []))) i (word_at s i)
  unfolding word_at
  word_by i none p h g = rw h (past_byte s fits)
  word_by i (some b) none h g = rw h g
  word_by i (some b) (some c) h g =
      let four : i + 2 + 2 ≡ i + 4 = omega arith in
      rw (h, g, four)

  -- What read_word answers.
  pub word_at_lem : (i : ℕ) → WordAt (bytes_of 2 (drop i s)) i (word_at s i)
  word_at_lem i = rw (drop-drop 2 i s) (word_by i (byte_of (drop i s)) (byte_of (drop (i + 2) s)) (byte_at_lem s fits i) (byte_at_lem s fits (i + 2)))

  pub past_word : (word_at s nowhere).next ≡ nowhere
  unfolding word_at
  past_word = rw (past_byte s fits) (past_byte s fits)

-- the sum with one byte more
pub summed_more : (v i b : ℕ) (o : Option (List ℕ)) → summed v i (before (some b) o) ≡ summed ((v + b) % 65536) (i + 2) o
summed_more v i b none = refl
summed_more v i b (some bs) =
    let round : (v + (b + total bs)) % 65536 ≡ ((v + b) % 65536 + total bs) % 65536 = omega arith in
    let far : i + 2 * suc (length bs) ≡ i + 2 + 2 * length bs = omega arith in
    rw (round, far)

-- bytes in two parts
abbrev pub joined : Option (List ℕ) → Option (List ℕ) → Option (List ℕ)
joined none p = none
joined (some x) none = none
joined (some x) (some y) = some (x ++ y)

before_joined : (o : Option ℕ) (p q : Option (List ℕ)) → before o (joined p q) ≡ joined (before o p) q
before_joined none p q = refl
before_joined (some b) none q = refl
before_joined (some b) (some x) none = refl
before_joined (some b) (some x) (some y) = refl

nothing_first : (o : Option (List ℕ)) → o ≡ joined (some []) o
nothing_first none = refl
nothing_first (some x) = refl

pub bytes_split : (a b : ℕ) (s : List ℕ) → bytes_of (a + b) s ≡ joined (bytes_of a s) (bytes_of b (drop (2 * a) s))
bytes_split zero b s = rw (zero-add b) (nothing_first (bytes_of b s))
bytes_split (suc a) b s =
    let two : 2 + 2 * a ≡ 2 * suc a = omega arith in
    rw (suc-add a b, bytes_split a b (drop 2 s), drop-drop (2 * a) 2 s, two) (before_joined (byte_of s) (bytes_of a (drop 2 s)) (bytes_of b (drop (2 * suc a) s)))

pub first_and_rest : (o : Option ℕ) (p : Option (List ℕ)) (bs : List ℕ) → before o p ≡ some bs
    → (o ≡ some (slice_index bs 0)) × (p ≡ some (drop 1 bs)) × (length bs ≡ suc (length (drop 1 bs)))
first_and_rest none p bs e = let z : ◌≡◌ {A = ℕ} 0 1 = cc in absurd (omega arith)
first_and_rest (some b) none bs e = let z : ◌≡◌ {A = ℕ} 0 1 = cc in absurd (omega arith)
first_and_rest (some b) (some l) bs e =
    let same : bs ≡ b ∷ l = cc in
    rw same (refl, refl, refl)

pub bytes_length : (n : ℕ) (s bs : List ℕ) → bytes_of n s ≡ some bs → length bs ≡ n
bytes_length zero s bs e = let same : bs ≡ [] = cc in rw same
bytes_length (suc n) s bs e =
    let parts = first_and_rest (byte_of s) (bytes_of n (drop 2 s)) bs e in
    parts.2 ∙ ap suc (bytes_length n (drop 2 s) (drop 1 bs) parts.1)

-- a part of some bytes
module _ (a b : ℕ) (s bs : List ℕ) where
  pub next_byte : bytes_of (suc a + b) s ≡ some bs
      → (byte_of s ≡ some (slice_index bs 0)) × (bytes_of (a + b) (drop 2 s) ≡ some (drop 1 bs)) × (length bs ≡ suc (length (drop 1 bs)))
  next_byte e = first_and_rest (byte_of s) (bytes_of (a + b) (drop 2 s)) bs (rw (suc-add a b) at e)

pub bytes_from_lem : (a b : ℕ) (s bs : List ℕ) → bytes_of (a + b) s ≡ some bs → bytes_of b (drop (2 * a) s) ≡ some (drop a bs)
bytes_from_lem zero b s bs e = rw (zero-add b) at e
bytes_from_lem (suc a) b s [] e = absurd (let z = (next_byte a b s [] e).2 in omega arith)
bytes_from_lem (suc a) b s (x ∷ bs) e =
    let two : 2 + 2 * a ≡ 2 * suc a = omega arith in
    rw (← two, ← drop-drop (2 * a) 2 s) (bytes_from_lem a b (drop 2 s) bs (next_byte a b s (x ∷ bs) e).1)

pub bytes_to : (a b : ℕ) (s bs : List ℕ) → bytes_of (a + b) s ≡ some bs → bytes_of a s ≡ some (take a bs)
bytes_to zero b s bs e = refl
bytes_to (suc a) b s [] e = absurd (let z = (next_byte a b s [] e).2 in omega arith)
bytes_to (suc a) b s (x ∷ bs) e =
    let parts = next_byte a b s (x ∷ bs) e in
    rw (parts.0, bytes_to a b (drop 2 s) bs parts.1)
