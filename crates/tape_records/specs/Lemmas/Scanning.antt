-- Laws of the contents of a text, a turn of a loop each.
use Rattle.std.specs.Prelude.{◌≡◌, ℕ, zero, suc, ◌+◌, ◌*◌, ◌<◌, ◌≤◌, false, List, [], ◌∷◌, length, drop, slice_index, refl}
use Rattle.std.proofs.Common.{◌∙◌, arith, drop_of_length-le, drop-cons, drop-drop}
use Rattle.std.proofs.Math.Seq.{drop-nil}
use Rattle.laws.specs.Answers.{no_end}
use Rattle.tape_records.specs.Records.{separator}
use Rattle.tape_records.specs.Contents.{Stretch, Item, stretch, finish, bad, stop, and_then, ended, judged, contents}

module _ (item : ℕ → List ℕ → Item) where
  pub skip : (passed count : ℕ) (s : List ℕ) → contents item passed count s ≡ contents item 0 count (drop passed s)
  skip passed count [] = rw (drop-nil passed)
  skip zero count (c ∷ s) = refl
  skip (suc passed) count (c ∷ s) = skip passed count s

  module _ (s : List ℕ) (i count : ℕ) where
    pub at_end : length s ≤ i → contents item 0 count (drop i s) ≡ stop no_end count 0
    at_end h = rw (drop_of_length-le s h)

    module _ (h : i < length s) (e : separator (slice_index s i) ≡ false) where
      at_record : contents item 0 count (drop i s)
          ≡ judged (item count (drop i s)) count (drop i s) (λ passed. contents item passed (count + 1) (drop (suc i) s))
      at_record = rw (drop-cons s i 0 h, e)

      pub at_bad : (reason : ℕ) → item count (drop i s) ≡ bad reason → contents item 0 count (drop i s) ≡ stop reason count (length (drop i s))
      at_bad reason q = at_record ∙ rw q

      pub at_finish : item count (drop i s) ≡ finish → contents item 0 count (drop i s) ≡ ended (count + 1) (drop 11 (drop i s))
      at_finish q = at_record ∙ rw q

      pub at_stretch : (r : Stretch) → item count (drop i s) ≡ stretch r
          → contents item 0 count (drop i s) ≡ and_then r (contents item 0 (count + 1) (drop (i + (11 + 2 * length r.bytes)) s))
      at_stretch r q =
          let after : suc i + (10 + 2 * length r.bytes) ≡ i + (11 + 2 * length r.bytes) = omega arith in
          at_record
          ∙ rw (q, skip (10 + 2 * length r.bytes) (count + 1) (drop (suc i) s), drop-drop (10 + 2 * length r.bytes) (suc i) s, after)
