-- Laws of a punched tape, for the proofs of the code: `end` is the address after the stretch.
use Rattle.std.specs.Prelude.{◌≡◌, ℕ, zero, suc, ◌+◌, ◌-◌, ◌*◌, ◌/◌, ◌%◌, ◌<◌, ◌≤◌, min, Bool, true, false, List, [], ◌∷◌, ◌++◌, length, take, drop, nat_lt, slice_index, refl}
use Rattle.std.specs.List.{flat_map}
use Rattle.std.proofs.lemmas.List.Concat.{flat_map-cons}
use Rattle.std.proofs.Common.{ap, sym, ◌∙◌, add-zero, zero-add, suc-add, arith, length-append, length-take, drop_of_length-le, take_all, take_at, drop_at, take-suc, ltb-true, ltb-false}
use Rattle.std.proofs.Math.Decide.{dec_lt}
use Rattle.std.proofs.Math.Seq.{slice, take-nil, drop-nil}
use Rattle.text_writing.specs.Numerals.{hex2}
use Rattle.tape_records.specs.Records.{total, hexes}
use Rattle.tape_records.specs.Theorems.Sums.{total_append, hexes_append}
use Rattle.tape_records.specs.Contents.{Stretch}
use Rattle.tape_records.specs.Grammar.{newline}
use Rattle.tape_paper.specs.Grammar.{record_text, tape_text}
use Rattle.tape_paper.specs.Lemmas.Lawful.{text_size}
use Rattle.tape_punching.specs.Punching.{cut}

-- one byte more of those that are summed
module _ (bs : List ℕ) (i : ℕ) (h : i < length bs) where
  pub sum_more : (sum : ℕ) → (sum + total (take (suc i) bs)) % 65536 ≡ ((sum + total (take i bs)) % 65536 + slice_index bs i) % 65536
  sum_more sum = rw (take-suc bs i 0 h, total_append (take i bs) (slice_index bs i ∷ [])) (omega arith)

-- the digits of bytes, as a writer puts them
pub hexes_flat : (bs : List ℕ) → hexes bs ≡ flat_map hex2 bs
hexes_flat [] = refl
hexes_flat (b ∷ bs) = ap (λ (t : List ℕ). hex2 b ++ t) (hexes_flat bs) ∙ sym (flat_map-cons hex2 b bs)

-- bytes that stand in the record before are passed over
skip : (at covered : ℕ) (bs : List ℕ) → cut at covered bs ≡ cut (at + covered) 0 (drop covered bs)
skip at covered [] = rw (drop-nil covered)
skip at zero (b ∷ bs) = rw (add-zero at)
skip at (suc covered) (b ∷ bs) =
    let same : suc at + covered ≡ at + suc covered = omega arith in
    rw (← same) (skip (suc at) covered bs)

next_record_lem : (at : ℕ) (bs : List ℕ) → 0 < length bs → cut at 0 bs ≡ record { first = at; bytes = take 24 bs } ∷ cut (at + 24) 0 (drop 24 bs)
next_record_lem at [] h = absurd (omega arith)
next_record_lem at (b ∷ bs) h =
    let same : suc at + 23 ≡ at + 24 = omega arith in
    rw (← same) (ap (λ (rs : List Stretch). record { first = at; bytes = take 24 (b ∷ bs) } ∷ rs) (skip (suc at) 23 bs))

take_drop : (a c : ℕ) (l : List ℕ) → take c (drop a l) ≡ drop a (take (a + c) l)
take_drop zero c l = rw (zero-add c)
take_drop (suc a) c [] = rw (take-nil c, take-nil (suc a + c))
take_drop (suc a) c (x ∷ l) = rw (suc-add a c) (take_drop a c l)

-- the stretch by its first address and its length
pub stretch_cut : (m : List ℕ) (first end : ℕ) → first ≤ end → take (end - first) (drop first m) ≡ slice first end m
stretch_cut m first end h =
    let all : first + (end - first) ≡ end = omega arith in
    take_drop first (end - first) m ∙ ap (λ (n : ℕ). drop first (take n m)) all

-- The next record, and the tape after it.
pub tape_more : (k at n : ℕ) (bs : List ℕ) → 0 < length bs → n ≡ min (length bs) 24
    → tape_text k (cut at 0 bs) ≡ (record_text at (take n bs) ++ newline) ++ tape_text (k + 1) (cut (at + n) 0 (drop n bs))
tape_more k at n bs some e = ap (tape_text k) (next_record_lem at bs some) ∙ by_test (nat_lt (length bs) 24) refl
  where
    by_test : (t : Bool) → nat_lt (length bs) 24 ≡ t
        → tape_text k (record { first = at; bytes = take 24 bs } ∷ cut (at + 24) 0 (drop 24 bs))
        ≡ (record_text at (take n bs) ++ newline) ++ tape_text (k + 1) (cut (at + n) 0 (drop n bs))
    by_test true g =
        let few = ltb-true (length bs) 24 g in
        let all : n ≡ length bs = omega arith in
        rw (all, take_all 24 bs (omega arith), take_all (length bs) bs (omega arith), drop_of_length-le bs {i = 24} (omega arith), drop_of_length-le bs {i = length bs} (omega arith))
    by_test false g =
        let many = ltb-false (length bs) 24 g in
        let whole : n ≡ 24 = omega arith in
        rw whole

-- the same, the bytes in two parts as `chunks` cuts them
pub chunk_more : (k at : ℕ) (bs chunk rest : List ℕ) → bs ≡ chunk ++ rest → length chunk ≡ min 24 (length bs) → 0 < length bs
    → tape_text k (cut at 0 bs) ≡ (record_text at chunk ++ newline) ++ tape_text (k + 1) (cut (at + length chunk) 0 rest)
chunk_more k at bs chunk rest parts size some =
    let taken : take (length chunk) bs ≡ chunk = rw parts (take_at chunk rest (length chunk) refl) in
    let left : drop (length chunk) bs ≡ rest = rw parts (drop_at chunk rest (length chunk) refl) in
    let more = tape_more k at (length chunk) bs some (omega (arith, size)) in
    rw (taken, left) at more

pub tape_none : (k at : ℕ) (bs : List ℕ) → length bs ≤ 0 → tape_text k (cut at 0 bs) ≡ record_text k [] ++ newline
tape_none k at [] h = refl
tape_none k at (b ∷ bs) h = absurd (omega arith)

-- how many records there are of some bytes: one, and those of the bytes after its 24
one_record : (n : ℕ) → (suc n - 0 + 23) / 24 ≡ 1 + (n - 23 + 23) / 24
one_record n = go (dec_lt n 23)
  where
    go : Dec (n < 23) → (suc n - 0 + 23) / 24 ≡ 1 + (n - 23 + 23) / 24
    go (yes few) = omega arith
    go (no many) = omega arith

-- two characters for each byte, 13 for each record, and 13 for the end record
pub tape_size : (k at covered : ℕ) (bs : List ℕ)
    → length (tape_text k (cut at covered bs)) ≡ 2 * (length bs - covered) + 13 * ((length bs - covered + 23) / 24) + 13
tape_size k at covered [] = omega (arith, text_size k [], length-append (record_text k []) newline)
tape_size k at (suc covered) (b ∷ bs) = let rest = tape_size k (suc at) covered bs in omega arith
tape_size k at zero (b ∷ bs) =
    omega (
      arith,
      tape_size (k + 1) (suc at) 23 bs,
      one_record (length bs),
      text_size at (take 24 (b ∷ bs)),
      length-take 24 (b ∷ bs),
      length-append (record_text at (take 24 (b ∷ bs)) ++ newline) (tape_text (k + 1) (cut (suc at) 23 bs)),
      length-append (record_text at (take 24 (b ∷ bs))) newline,
    )
