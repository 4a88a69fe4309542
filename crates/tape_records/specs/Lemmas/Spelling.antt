-- A record as text: what stands there is read, and what is read stood there. One fact for every format: what the bytes say, and by which
-- rule their sum is right, does not matter here.
use Rattle.std.specs.Prelude.{◌≡◌, ℕ, zero, suc, ◌+◌, ◌*◌, ◌/◌, ◌%◌, ◌<◌, Bool, true, false, cond, List, [], ◌∷◌, ◌++◌, length, drop, ◌==◌, nat_lt, slice_index, refl}
use Rattle.std.proofs.Common.{ap, sym, ◌∙◌, arith, drop-drop, eqb-true, eq-eqb, lt-ltb, ltb-true}
use Rattle.std.proofs.Math.Option.{none, some}
use Rattle.laws.specs.Lemmas.Agree.{agree}
use Rattle.text_reading.specs.Numbers.{digits, place_in, digit_value}
use Rattle.text_writing.specs.Numerals.{digit, hex2}
use Rattle.tape_records.specs.Records.{byte_of, bytes_of, counted, record_of, count, hexes, Bytes}
use Rattle.tape_records.specs.Lemmas.Places.{first_and_rest}
use Rattle.tape_records.specs.Lemmas.Whole.{some_same, none_some, record_bytes}

-- a digit's value, and the digit of a value
digit_value_lem : (d : ℕ) → d < 16 → digit_value (digit d) ≡ d
unfolding digit_value digit
digit_value_lem = agree (λ d. digit_value (digit d)) (λ d. d) 16 refl

at_its_place : (ds : List ℕ) (b : ℕ) → place_in ds b < length ds → slice_index ds (place_in ds b) ≡ b
at_its_place [] b h = absurd (omega arith)
at_its_place (d ∷ ds) b h = by_test (b == d) refl h (at_its_place ds b)
  where
    by_test : (t : Bool) → (b == d) ≡ t → cond t 0 (suc (place_in ds b)) < suc (length ds)
        → (place_in ds b < length ds → slice_index ds (place_in ds b) ≡ b) → slice_index (d ∷ ds) (cond t 0 (suc (place_in ds b))) ≡ b
    by_test true e g further = sym (eqb-true b d e)
    by_test false e g further = further (omega arith)

value_digit : (c : ℕ) → digit_value c < 16 → digit (digit_value c) ≡ c
unfolding digit_value digit
value_digit c h = at_its_place digits c h

-- what stands there is read
byte_spelled : (b : ℕ) (s : List ℕ) → b < 256 → byte_of (hex2 b ++ s) ≡ some b
byte_spelled b s h =
    let high : b / 16 < 16 = omega arith in
    let low : b % 16 < 16 = omega arith in
    let both : b / 16 * 16 + b % 16 ≡ b = omega arith in
    rw (digit_value_lem (b / 16) high, digit_value_lem (b % 16) low, lt-ltb (b / 16) 16 high, lt-ltb (b % 16) 16 low, both)

pub bytes_spelled : (bs s : List ℕ) → Bytes bs → bytes_of (length bs) (hexes bs ++ s) ≡ some bs
bytes_spelled [] s h = refl
bytes_spelled (b ∷ bs) s h = rw (byte_spelled b (hexes bs ++ s) h.0, bytes_spelled bs s h.1)

pub record_spelled : (mark : ℕ) (bs s : List ℕ) → Bytes bs → length bs ≡ count bs + 5 → record_of mark (mark ∷ hexes bs ++ s) ≡ some bs
unfolding record_of
record_spelled mark [] s h size = absurd (omega arith)
record_spelled mark (n ∷ bs) s h size =
    rw (eq-eqb mark mark refl, byte_spelled n (hexes bs ++ s) h.0, ← size) (bytes_spelled (n ∷ bs) s h)

-- what is read stood there
two_back : (t u : Bool) (c d b : ℕ) (s : List ℕ) → nat_lt (digit_value c) 16 ≡ t → nat_lt (digit_value d) 16 ≡ u
    → cond t (cond u (some (digit_value c * 16 + digit_value d)) none) none ≡ some b → c ∷ d ∷ s ≡ hex2 b ++ s
two_back false u c d b s p q e = absurd (none_some e)
two_back true false c d b s p q e = absurd (none_some e)
two_back true true c d b s p q e =
    let high : digit_value c < 16 = ltb-true (digit_value c) 16 p in
    let low : digit_value d < 16 = ltb-true (digit_value d) 16 q in
    let value : digit_value c * 16 + digit_value d ≡ b = some_same e in
    let first : b / 16 ≡ digit_value c = omega arith in
    let second : b % 16 ≡ digit_value d = omega arith in
    rw (first, second, value_digit c high, value_digit d low)

byte_back : (s : List ℕ) (b : ℕ) → byte_of s ≡ some b → s ≡ hex2 b ++ drop 2 s
byte_back [] b e = absurd (none_some e)
byte_back (c ∷ []) b e = absurd (none_some e)
byte_back (c ∷ d ∷ s) b e = two_back (nat_lt (digit_value c) 16) (nat_lt (digit_value d) 16) c d b s refl refl e

pub bytes_back : (n : ℕ) (s bs : List ℕ) → bytes_of n s ≡ some bs → s ≡ hexes bs ++ drop (2 * n) s
bytes_back zero s bs e = let same : bs ≡ [] = sym (some_same e) in rw same
bytes_back (suc n) s [] e = let z = (first_and_rest (byte_of s) (bytes_of n (drop 2 s)) [] e).2 in absurd (omega arith)
bytes_back (suc n) s (b ∷ bs) e =
    let parts = first_and_rest (byte_of s) (bytes_of n (drop 2 s)) (b ∷ bs) e in
    let two : 2 + 2 * n ≡ 2 * suc n = omega arith in
    byte_back s b parts.0
    ∙ ap (λ (t : List ℕ). hex2 b ++ t) (bytes_back n (drop 2 s) bs parts.1 ∙ rw (drop-drop (2 * n) 2 s, two))

marked : (mark : ℕ) (s bs : List ℕ) → record_of mark s ≡ some bs → s ≡ mark ∷ drop 1 s
unfolding record_of
marked mark [] bs e = absurd (none_some e)
marked mark (c ∷ s) bs e = by_test (c == mark) refl e
  where
    by_test : (t : Bool) → (c == mark) ≡ t → cond t (counted (byte_of s) s) none ≡ some bs → c ∷ s ≡ mark ∷ s
    by_test true f g = rw (eqb-true c mark f)
    by_test false f g = absurd (none_some g)

pub record_back : (mark : ℕ) (s bs : List ℕ) → record_of mark s ≡ some bs → s ≡ mark ∷ hexes bs ++ drop (11 + 2 * count bs) s
record_back mark s bs e =
    let all : 1 + 2 * (count bs + 5) ≡ 11 + 2 * count bs = omega arith in
    marked mark s bs e
    ∙ ap (λ (t : List ℕ). mark ∷ t) (bytes_back (count bs + 5) (drop 1 s) bs (record_bytes mark s bs e) ∙ rw (drop-drop (2 * (count bs + 5)) 1 s, all))
