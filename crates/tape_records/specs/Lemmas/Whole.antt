-- What is known of the bytes of a whole record.
use Rattle.std.specs.Prelude.{◌≡◌, ℕ, zero, suc, ◌+◌, ◌-◌, ◌*◌, ◌<◌, ◌≤◌, Bool, true, false, cond, List, [], ◌∷◌, length, take, drop, ◌==◌, ◌≢◌, nat_lt, slice_index, refl}
use Rattle.std.proofs.Common.{sym, ◌∙◌, arith, length-drop, drop-drop, ltb-true}
use Rattle.std.proofs.Math.Option.{Option, none, some}
use Rattle.text_reading.specs.Numbers.{nowhere, digit_value, byte_at}
use Rattle.tape_records.specs.Records.{byte_of, bytes_of, counted, record_of, count, Bytes}
use Rattle.tape_records.specs.Inner.Reading.{values_at}
use Rattle.tape_records.specs.Lemmas.Places.{ByteAt, byte_at_lem, first_and_rest, bytes_length, next_byte, bytes_from_lem, bytes_to}

-- what follows from two different constructors being equal, which `cc` turns into this
pub never : {A : Type 0} → ◌≡◌ {A = ℕ} 0 1 → A
never z = absurd (omega arith)

pub some_same : {A : Type 0} {a b : A} → some a ≡ some b → a ≡ b
some_same e = cc

pub none_some : {A : Type 0} {a : A} → none ≢ some a
none_some e = let z : ◌≡◌ {A = ℕ} 0 1 = cc in omega arith

two_small : (t u : Bool) (c d b : ℕ) → nat_lt c 16 ≡ t → nat_lt d 16 ≡ u → cond t (cond u (some (c * 16 + d)) none) none ≡ some b → b < 256
two_small false u c d b p q e = absurd (none_some e)
two_small true false c d b p q e = absurd (none_some e)
two_small true true c d b p q e = omega (arith, ltb-true c 16 p, ltb-true d 16 q, some_same e)

pub byte_small : (s : List ℕ) (b : ℕ) → byte_of s ≡ some b → (b < 256) × (2 ≤ length s)
byte_small [] b e = absurd (none_some e)
byte_small (c ∷ []) b e = absurd (none_some e)
byte_small (c ∷ d ∷ s) b e =
    (two_small (nat_lt (digit_value c) 16) (nat_lt (digit_value d) 16) (digit_value c) (digit_value d) b refl refl e, omega arith)

pub bytes_small : (n : ℕ) (s bs : List ℕ) → bytes_of n s ≡ some bs → Bytes bs
bytes_small zero s bs e = let same : bs ≡ [] = sym (some_same e) in rw same tt
bytes_small (suc n) s [] e = tt
bytes_small (suc n) s (b ∷ bs) e =
    let parts = first_and_rest (byte_of s) (bytes_of n (drop 2 s)) (b ∷ bs) e in
    ((byte_small s b parts.0).0, bytes_small n (drop 2 s) bs parts.1)

-- a whole record's text is its mark and its bytes
counted_bytes : (o : Option ℕ) (s bs : List ℕ) → byte_of s ≡ o → counted o s ≡ some bs → bytes_of (count bs + 5) s ≡ some bs
counted_bytes none s bs f e = absurd (none_some e)
counted_bytes (some n) s bs f e =
    let first : 1 + (n + 4) ≡ n + 5 = omega arith in
    let same : some n ≡ some (slice_index bs 0) = sym f ∙ (next_byte 0 (n + 4) s bs (rw first e)).0 in
    rw (← some_same same) e

marked_bytes : (b : Bool) (s bs : List ℕ) → cond b (counted (byte_of s) s) none ≡ some bs → (b ≡ true) × (bytes_of (count bs + 5) s ≡ some bs)
marked_bytes false s bs e = absurd (none_some e)
marked_bytes true s bs e = (refl, counted_bytes (byte_of s) s bs refl e)

module _ (mark : ℕ) where
  pub record_bytes : (s bs : List ℕ) → record_of mark s ≡ some bs → bytes_of (count bs + 5) (drop 1 s) ≡ some bs
  unfolding record_of
  record_bytes [] bs e = absurd (none_some e)
  record_bytes (c ∷ s) bs e = (marked_bytes (c == mark) s bs e).1

  module _ (s bs : List ℕ) (e : record_of mark s ≡ some bs) where
    pub record_length : length bs ≡ count bs + 5
    record_length = bytes_length (count bs + 5) (drop 1 s) bs (record_bytes s bs e)

    pub record_small : Bytes bs
    record_small = bytes_small (count bs + 5) (drop 1 s) bs (record_bytes s bs e)

-- the bytes that are stored are the record's
module _ (s : List ℕ) (fits : length s ≤ nowhere) where
  value_by : (o : Option ℕ) (i b : ℕ) → o ≡ some b → ByteAt o i (byte_at s i) → (byte_at s i).value ≡ b
  value_by none i b e h = absurd (none_some e)
  value_by (some a) i b e h = rw h (some_same e)

  pub values : (n i : ℕ) (bs : List ℕ) → bytes_of n (drop i s) ≡ some bs → values_at n s i ≡ bs
  values zero i bs e = some_same e
  values (suc n) i [] e = let z = (first_and_rest (byte_of (drop i s)) (bytes_of n (drop 2 (drop i s))) [] e).2 in absurd (omega arith)
  values (suc n) i (b ∷ bs) e =
      let parts = first_and_rest (byte_of (drop i s)) (bytes_of n (drop 2 (drop i s))) (b ∷ bs) e in
      rw (value_by (byte_of (drop i s)) i b parts.0 (byte_at_lem s fits i), values n (i + 2) bs (rw (← drop-drop 2 i s) parts.1))

-- n bytes of a record from its byte j on
pub record_values : (mark : ℕ) (s bs : List ℕ) → record_of mark s ≡ some bs → length s ≤ nowhere → (j n : ℕ) → j + n ≤ count bs + 5
    → values_at n (drop (1 + 2 * j) s) 0 ≡ take n (drop j bs)
record_values mark s bs e fits j n h =
    let rest : ℕ = count bs + 5 - (j + n) in
    let whole : j + (n + (count bs + 5 - (j + n))) ≡ count bs + 5 = omega arith in
    let from : bytes_of (n + (count bs + 5 - (j + n))) (drop (2 * j) (drop 1 s)) ≡ some (drop j bs) =
    bytes_from_lem j (n + (count bs + 5 - (j + n))) (drop 1 s) bs (rw whole (record_bytes mark s bs e)) in
    let to = bytes_to n (count bs + 5 - (j + n)) (drop (2 * j) (drop 1 s)) (drop j bs) from in
    values (drop (1 + 2 * j) s) (simp length-drop (omega arith)) n 0 (take n (drop j bs)) (rw (← drop-drop (2 * j) 1 s) to)
