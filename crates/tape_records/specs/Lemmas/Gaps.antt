-- Laws of Gaps.antt.
use Rattle.std.specs.Prelude.{◌≡◌, ℕ, suc, ◌+◌, ◌-◌, ◌<◌, ◌≤◌, Bool, true, false, cond, List, [], ◌∷◌, length, drop, slice_index, refl}
use Rattle.std.specs.List.{prefix_len}
use Rattle.std.proofs.Common.{arith}
use Rattle.laws.specs.Answers.{not_refused, malformed_record}
use Rattle.tape_records.specs.Records.{separator, only_separators}
use Rattle.tape_records.specs.Contents.{Item, stop, ended, contents}
use Rattle.tape_records.specs.Lemmas.Whole.{never}
use Rattle.tape_records.specs.Inner.Gaps.{gap_length}

-- How many separators a text begins with, in the library's word.
pub gap_prefix : (l : List ℕ) → prefix_len separator l ≡ gap_length l
gap_prefix [] = refl
gap_prefix (c ∷ l) = by_case (separator c) (gap_prefix l)
  where
    by_case : (b : Bool) → prefix_len separator l ≡ gap_length l → cond b (1 + prefix_len separator l) 0 ≡ cond b (suc (gap_length l)) 0
    by_case true e = omega arith
    by_case false e = refl

-- What a text says is what it says from there on, where no separator stands.
pub past_gap : (item : ℕ → List ℕ → Item) (k : ℕ) (l : List ℕ) → contents item 0 k l ≡ contents item 0 k (drop (gap_length l) l)
past_gap item k [] = refl
past_gap item k (c ∷ l) = by_case (separator c) refl (past_gap item k l)
  where
    by_case : (b : Bool) → separator c ≡ b → contents item 0 k l ≡ contents item 0 k (drop (gap_length l) l)
        → contents item 0 k (c ∷ l) ≡ contents item 0 k (drop (cond b (suc (gap_length l)) 0) (c ∷ l))
    by_case true e f = rw e f
    by_case false e f = refl

pub no_separator : (l : List ℕ) → gap_length l < length l → separator (slice_index l (gap_length l)) ≡ false
no_separator [] h = absurd (omega arith)
no_separator (c ∷ l) h = by_case (separator c) refl h (no_separator l)
  where
    by_case : (b : Bool) → separator c ≡ b → cond b (suc (gap_length l)) 0 < suc (length l)
        → (gap_length l < length l → separator (slice_index l (gap_length l)) ≡ false) → separator (slice_index (c ∷ l) (cond b (suc (gap_length l)) 0)) ≡ false
    by_case true e g further = further (omega arith)
    by_case false e g further = e

-- What follows an end record is all gap, or it is not.
module _ (good : ℕ) where
  pub gap_whole : (l : List ℕ) → length l ≤ gap_length l → ended good l ≡ stop not_refused good 0
  gap_whole [] h = refl
  gap_whole (c ∷ l) h = by_case (separator c) h (gap_whole l)
    where
      by_case : (b : Bool) → suc (length l) ≤ cond b (suc (gap_length l)) 0 → (length l ≤ gap_length l → ended good l ≡ stop not_refused good 0)
          → cond b (ended good l) (stop malformed_record good (suc (length l))) ≡ stop not_refused good 0
      by_case true g further = further (omega arith)
      by_case false g further = absurd (omega arith)

  pub gap_part : (l : List ℕ) → gap_length l < length l → ended good l ≡ stop malformed_record good (length l - gap_length l)
  gap_part [] h = absurd (omega arith)
  gap_part (c ∷ l) h = by_case (separator c) h (gap_part l)
    where
      by_case : (b : Bool) → cond b (suc (gap_length l)) 0 < suc (length l)
          → (gap_length l < length l → ended good l ≡ stop malformed_record good (length l - gap_length l))
          → cond b (ended good l) (stop malformed_record good (suc (length l))) ≡ stop malformed_record good (suc (length l) - cond b (suc (gap_length l)) 0)
      by_case true g further =
          let one : suc (length l) - suc (gap_length l) ≡ length l - gap_length l = omega arith in
          rw one (further (omega arith))
      by_case false g further = let all : suc (length l) - 0 ≡ suc (length l) = omega arith in rw all

  -- the same by the grammar's gap
  pub ended_well : (l : List ℕ) → only_separators l ≡ true → ended good l ≡ stop not_refused good 0
  ended_well [] h = refl
  ended_well (c ∷ l) h = by_case (separator c) h (ended_well l)
    where
      by_case : (b : Bool) → cond b (only_separators l) false ≡ true → (only_separators l ≡ true → ended good l ≡ stop not_refused good 0)
          → cond b (ended good l) (stop malformed_record good (suc (length l))) ≡ stop not_refused good 0
      by_case true g further = further g
      by_case false g further = never (cc)

  pub well_ended : (l : List ℕ) → (ended good l).answer ≡ not_refused → (only_separators l ≡ true) × (ended good l ≡ stop not_refused good 0)
  well_ended [] h = (refl, refl)
  well_ended (c ∷ l) h = by_case (separator c) h (well_ended l)
    where
      by_case : (b : Bool) → (cond b (ended good l) (stop malformed_record good (suc (length l)))).answer ≡ not_refused
          → ((ended good l).answer ≡ not_refused → (only_separators l ≡ true) × (ended good l ≡ stop not_refused good 0))
          → (cond b (only_separators l) false ≡ true) × (cond b (ended good l) (stop malformed_record good (suc (length l))) ≡ stop not_refused good 0)
      by_case true g further = further g
      by_case false g further = absurd (omega arith)
