-- The record fact, once for every sum rule: a record that is written with its sum is read with the sum right, and a record that is read
-- with the sum right was written so.
use Rattle.std.specs.Prelude.{◌≡◌, ℕ, zero, suc, ◌+◌, ◌-◌, ◌*◌, ◌<◌, Bool, true, List, [], ◌∷◌, ◌++◌, length, take, drop, slice_index, refl}
use Rattle.std.proofs.Common.{ap, sym, ◌∙◌, arith, length-append, length-drop, take-append-drop, length-take-le}
use Rattle.std.proofs.Math.Option.{some}
use Rattle.text_writing.specs.Numerals.{hex2}
use Rattle.tape_records.specs.Records.{record_of, count, total, hexes, Bytes}
use Rattle.tape_records.specs.Lemmas.Whole.{record_length, record_small}
use Rattle.tape_records.specs.Lemmas.Spelling.{record_spelled, record_back}

-- `sum` gives the bytes of a sum, `width` of them, from the bytes before it, and `right` tests all bytes of a record
pub record SumRule (width : ℕ) (sum : List ℕ → List ℕ) (right : List ℕ → Bool) : Type 0 where
  pub wide : (bs : List ℕ) → length (sum bs) ≡ width
  pub small : (bs : List ℕ) → Bytes (sum bs)
  pub summed : (bs : List ℕ) → length bs + width ≡ count bs + 5 → right (bs ++ sum bs) ≡ true
  pub only : (bs t : List ℕ) → length bs + width ≡ count bs + 5 → length t ≡ width → Bytes t → right (bs ++ t) ≡ true → t ≡ sum bs

pub bytes_append : (a b : List ℕ) → Bytes a → Bytes b → Bytes (a ++ b)
bytes_append [] b h g = g
bytes_append (x ∷ a) b h g = (h.0, bytes_append a b h.1 g)

pub bytes_drop : (n : ℕ) (l : List ℕ) → Bytes l → Bytes (drop n l)
bytes_drop zero l h = h
bytes_drop (suc n) [] h = tt
bytes_drop (suc n) (x ∷ l) h = bytes_drop n l h.1

pub bytes_take : (n : ℕ) (l : List ℕ) → Bytes l → Bytes (take n l)
bytes_take zero l h = tt
bytes_take (suc n) [] h = tt
bytes_take (suc n) (x ∷ l) h = (h.0, bytes_take n l h.1)

pub get_d_small : (l : List ℕ) (i : ℕ) → Bytes l → slice_index l i < 256
get_d_small [] i h = omega arith
get_d_small (x ∷ l) zero h = h.0
get_d_small (x ∷ l) (suc i) h = get_d_small l i h.1

pub hexes_append : (a b : List ℕ) → hexes (a ++ b) ≡ hexes a ++ hexes b
hexes_append [] b = refl
hexes_append (x ∷ a) b = ap (λ (t : List ℕ). hex2 x ++ t) (hexes_append a b)

pub hexes_length : (l : List ℕ) → length (hexes l) ≡ 2 * length l
hexes_length [] = refl
hexes_length (x ∷ l) = let rest = hexes_length l in omega arith

pub total_append : (a b : List ℕ) → total (a ++ b) ≡ total a + total b
total_append [] b = omega arith
total_append (x ∷ a) b = let rest = total_append a b in omega arith

-- the first byte is that of the part before the sum
same_count : (bs t : List ℕ) → 0 < length bs → count (bs ++ t) ≡ count bs
same_count [] t h = absurd (omega arith)
same_count (x ∷ bs) t h = refl

module _ {width : ℕ} {sum : List ℕ → List ℕ} {right : List ℕ → Bool} (rule : SumRule width sum right) (mark : ℕ) (narrow : width < 5) where
  pub written_right : (bs s : List ℕ) → Bytes bs → length bs + width ≡ count bs + 5
      → (record_of mark (mark ∷ hexes (bs ++ sum bs) ++ s) ≡ some (bs ++ sum bs)) × (right (bs ++ sum bs) ≡ true)
  written_right bs s small size = (
    record_spelled mark (bs ++ sum bs) s (bytes_append bs (sum bs) small (rule.small bs))
        (omega (arith, length-append bs (sum bs), rule.wide bs, same_count bs (sum bs) (omega arith))),
    rule.summed bs size,
  )

  pub right_written : (bs s : List ℕ) → record_of mark s ≡ some bs → right bs ≡ true
      → (bs ≡ take (count bs + 5 - width) bs ++ sum (take (count bs + 5 - width) bs))
      × (s ≡ mark ∷ hexes (take (count bs + 5 - width) bs ++ sum (take (count bs + 5 - width) bs)) ++ drop (11 + 2 * count bs) s)
  right_written bs s e r =
      let n = count bs + 5 - width in
      let all = record_length mark s bs e in
      let few : length (take (count bs + 5 - width) bs) ≡ count bs + 5 - width = length-take-le (count bs + 5 - width) bs (omega arith) in
      let apart = take-append-drop (count bs + 5 - width) bs in
      let first : count bs ≡ count (take (count bs + 5 - width) bs) =
      ap count (sym apart) ∙ same_count (take (count bs + 5 - width) bs) (drop (count bs + 5 - width) bs) (omega arith) in
      let sums : drop (count bs + 5 - width) bs ≡ sum (take (count bs + 5 - width) bs) =
      rule.only (take (count bs + 5 - width) bs) (drop (count bs + 5 - width) bs) (omega arith)
      (omega (arith, length-drop (count bs + 5 - width) bs)) (bytes_drop (count bs + 5 - width) bs (record_small mark s bs e))
      (ap right apart ∙ r) in
      let same : bs ≡ take (count bs + 5 - width) bs ++ sum (take (count bs + 5 - width) bs) =
      sym apart ∙ ap (λ (t : List ℕ). take (count bs + 5 - width) bs ++ t) sums in
      (same, record_back mark s bs e ∙ ap (λ (t : List ℕ). mark ∷ hexes t ++ drop (11 + 2 * count bs) s) same)
