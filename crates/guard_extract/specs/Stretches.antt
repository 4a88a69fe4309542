-- The word that says what is sealed: stretches such as 0400-04FF, a comma between two of them.
use Rattle.std.specs.Prelude.{ℕ, zero, suc, ◌≡◌, Bool, false, cond, ◌&&◌, ◌||◌, List, [], ◌∷◌, eqb, leb, ltb, length, Option, Some, None, Result, Ok, Err}
use Rattle.text_reading.specs.Numbers.{nowhere, word_at, mark_at}
use Rattle.guard_maps.specs.Maps.{in_map}
use Rattle.guard_extract.specs.declared.stretches.Stretch.{Stretch}
use Rattle.guard_extract.specs.declared.stretches.Misspelled.{Misspelled}

-- ---- what is sealed

-- the addresses from a first to a last one
abbrev pub in_stretch : ℕ → ℕ → ℕ → Bool
in_stretch first last a = leb first a && leb a last

abbrev pub in_any : List Stretch → ℕ → Bool
in_any [] a = false
in_any (s ∷ l) a = in_stretch s.first s.last a || in_any l a

-- ---- what a word says

-- all of it is stretches, or the place of the first thing that is wrong
abbrev pub Spelled : Type 0
Spelled = Result Unit Misspelled

abbrev pub well : Spelled
well = Ok tt

-- two addresses, a hyphen between them
unfoldable pub stretch_at : List ℕ → ℕ → Stretch
stretch_at word at =
    let first = word_at word at in
    let last = word_at word (mark_at 45 word first.next) in
    record { first = first.value; last = last.value; next = last.next }

-- the code has it only if it stands there
abbrev pub stretch_found : Stretch → Option Stretch
stretch_found s = cond (eqb s.next nowhere) None (Some s)

-- FFFC or FFFD, where a run finds its start
abbrev pub holds_start : ℕ → ℕ → Bool
holds_start first last = leb first 0xFFFD && leb 0xFFFC last

-- the place after a stretch: that of the next one, or the end of the word
unfoldable pub place_after : List ℕ → ℕ → ℕ
place_after word next = cond (eqb next (length word)) next (mark_at 44 word next)

-- the stretches from a place on, at most n, or the place of the first thing that is wrong
unfoldable pub stretches_from : ℕ → List ℕ → ℕ → Spelled × List Stretch
stretches_from zero word at = (Err (Misspelled.Otherwise at), [])
stretches_from (suc n) word at =
    let s = stretch_at word at in
    let next = place_after word s.next in
    let more = stretches_from n word next in
    cond (eqb next nowhere) (Err (Misspelled.Otherwise at), [])
    (cond (ltb s.last s.first) (Err (Misspelled.Backwards at), [])
    (cond (holds_start s.first s.last) (Err (Misspelled.AtTheStart at), [])
    (cond (eqb s.next (length word)) (well, s ∷ []) (more.0, s ∷ more.1))))

-- each takes nine characters, so a word has fewer than it has characters
abbrev pub stretches : List ℕ → Spelled × List Stretch
stretches word = stretches_from (length word) word 0

-- the map has then, besides what it had, the addresses of the stretches that were read
pub record Sealing (word map : List ℕ) (spelled : Spelled) (after : List ℕ) : Type 0 where
  pub told : spelled ≡ (stretches word).0
  pub added : (a : ℕ) → in_map after a ≡ (in_map map a || in_any (stretches word).1 a)
