-- Records laid onto a memory: an address has the byte of the last record that covers it, and its own if none does.
use Rattle.std.specs.Prelude.{◌≡◌, ℕ, zero, suc, ◌+◌, ◌<◌, ◌≤◌, List, [], ◌∷◌, ◌++◌, length, slice_index, slice_set, refl}
use Rattle.std.proofs.Common.{◌∙◌, add-zero, arith, length-set, get_or-set_same, get_or-set_other}
use Rattle.std.proofs.lemmas.List.Edits.{sets}
use Rattle.std.proofs.Math.Seq.{length-sets}
use Rattle.tape_records.specs.Contents.{Stretch, laid}

-- no record of these covers an address
abbrev pub Untouched : ℕ → List Stretch → Type 0
Untouched a [] = Unit
Untouched a (r ∷ rs) = (r.first ≤ a → a < r.first + length r.bytes → ⊥) × Untouched a rs

sets_outside : (bs m : List ℕ) (i a : ℕ) → (i ≤ a → a < i + length bs → ⊥) → slice_index (sets m i bs) a ≡ slice_index m a
sets_outside [] m i a h = refl
sets_outside (b ∷ bs) m i a h =
    sets_outside bs (slice_set m i b) (suc i) a (λ p q. h (omega arith) (omega arith))
    ∙ get_or-set_other m i a b 0 (λ e. h (omega arith) (omega arith))

sets_inside : (bs m : List ℕ) (i j : ℕ) → j < length bs → i + length bs ≤ length m → slice_index (sets m i bs) (i + j) ≡ slice_index bs j
sets_inside [] m i j h f = absurd (omega arith)
sets_inside (b ∷ bs) m i zero h f =
    rw (add-zero i) (sets_outside bs (slice_set m i b) (suc i) i (λ p q. omega arith) ∙ get_or-set_same m i b 0 (omega arith))
sets_inside (b ∷ bs) m i (suc j) h f =
    let same : i + suc j ≡ suc i + j = omega arith in
    rw same (sets_inside bs (slice_set m i b) (suc i) j (omega arith) (omega (arith, length-set m i b)))

pub laid_untouched : (rs : List Stretch) (m : List ℕ) (a : ℕ) → Untouched a rs → slice_index (laid rs m) a ≡ slice_index m a
laid_untouched [] m a u = refl
laid_untouched (r ∷ rs) m a u =
    laid_untouched rs (sets m r.first r.bytes) a u.1 ∙ sets_outside r.bytes m r.first a u.0

pub laid_last : (rs : List Stretch) (r : Stretch) (qs : List Stretch) (m : List ℕ) (j : ℕ) → j < length r.bytes
    → r.first + length r.bytes ≤ length m → Untouched (r.first + j) qs → slice_index (laid (rs ++ r ∷ qs) m) (r.first + j) ≡ slice_index r.bytes j
laid_last [] r qs m j h f u =
    laid_untouched qs (sets m r.first r.bytes) (r.first + j) u ∙ sets_inside r.bytes m r.first j h f
laid_last (q ∷ rs) r qs m j h f u =
    laid_last rs r qs (sets m q.first q.bytes) j h (omega (arith, length-sets m q.first q.bytes)) u
