-- What a punched tape is worth: read by P2 it gives the stretch and leaves all else, and nothing outside the stretch is in it.
use Rattle.std.specs.Prelude.{◌≡◌, ℕ, zero, suc, ◌+◌, ◌-◌, ◌*◌, ◌<◌, ◌≤◌, List, [], ◌∷◌, ◌++◌, length, take, drop, replicate, slice_index, slice_set, refl}
use Rattle.std.proofs.Math.Path.{ap}
use Rattle.std.proofs.Common.{sym, ◌∙◌, add-zero, arith, eq-eqb, le-ltb, length-take, get_or-drop, get_or-take, ext_get_or}
use Rattle.std.proofs.lemmas.List.Edits.{sets, sets-eq}
use Rattle.std.proofs.Math.Seq.{length-slice}
use Rattle.laws.specs.Answers.{not_refused}
use Rattle.manual.specs.Stepping.{full_memory}
use Rattle.laws.specs.Characters.{characters}
use Rattle.text_writing.specs.Lemmas.Delivered.{written}
use Rattle.text_writing.specs.Numerals.{digit}
use Rattle.tape_records.specs.Records.{Bytes}
use Rattle.tape_records.specs.Contents.{Stretch, Loaded, laid}
use Rattle.tape_records.specs.Theorems.Sums.{bytes_take, bytes_drop}
use Rattle.tape_records.specs.Grammar.{Fits}
use Rattle.tape_paper.specs.Tapes.{read_tape}
use Rattle.tape_paper.specs.Grammar.{tape_text}
use Rattle.tape_paper.specs.Theorems.Reading.{written_read}
use Rattle.tape_punching.specs.Punching.{cut, stretch_of, tape_from, tape_into, longest_tape}
use Rattle.tape_punching.specs.Lemmas.Punching.{tape_size}
use Rattle.tape_punching.specs.Lemmas.Outcomes.{text_length, answered}

-- the records of a stretch laid onto a memory are the stretch
sets_split : (j : ℕ) (m : List ℕ) (at : ℕ) (l : List ℕ) → sets (sets m at (take j l)) (at + j) (drop j l) ≡ sets m at l
sets_split zero m at l = rw (add-zero at)
sets_split (suc j) m at [] = refl
sets_split (suc j) m at (x ∷ l) = let same : at + suc j ≡ suc at + j = omega arith in rw same (sets_split j (slice_set m at x) (suc at) l)

laid_cut : (at covered : ℕ) (bs m : List ℕ) → laid (cut at covered bs) m ≡ sets m (at + covered) (drop covered bs)
laid_cut at zero [] m = refl
laid_cut at (suc covered) [] m = refl
laid_cut at (suc covered) (b ∷ bs) m = let same : at + suc covered ≡ suc at + covered = omega arith in rw same (laid_cut (suc at) covered bs m)
laid_cut at zero (b ∷ bs) m =
    let same : suc at + 23 ≡ at + 24 = omega arith in
    rw (add-zero at) (laid_cut (suc at) 23 bs (sets m at (take 24 (b ∷ bs))) ∙ rw same (sets_split 24 m at (b ∷ bs)))

cut_fits : (at covered : ℕ) (bs : List ℕ) → Bytes bs → at + length bs ≤ 65536 → Fits (cut at covered bs)
cut_fits at covered [] s h = tt
cut_fits at (suc covered) (b ∷ bs) s h = cut_fits (suc at) covered bs s.1 (omega arith)
cut_fits at zero (b ∷ bs) s h =
    let size = length-take 24 (b ∷ bs) in (
      record { small = bytes_take 24 (b ∷ bs) s; some = omega arith; few = omega arith; inside = omega arith },
      cut_fits (suc at) 23 bs s.1 (omega arith),
    )

-- Each record but the last has 24 bytes, the last 1 to 24, and each begins where the one before it ends.
abbrev pub Rows : ℕ → List Stretch → Type 0
Rows at [] = Unit
Rows at (r ∷ []) = (r.first ≡ at) × (0 < length r.bytes) × (length r.bytes ≤ 24)
Rows at (r ∷ q ∷ rs) = (r.first ≡ at) × (length r.bytes ≡ 24) × Rows (at + 24) (q ∷ rs)

rows_join : (at : ℕ) (r : Stretch) (rs : List Stretch) → r.first ≡ at → 0 < length r.bytes → length r.bytes ≤ 24
    → (0 < length rs → length r.bytes ≡ 24) → Rows (at + 24) rs → Rows at (r ∷ rs)
rows_join at r [] e some few whole rows = (e, some, few)
rows_join at r (q ∷ rs) e some few whole rows = (e, whole (omega arith), rows)

cut_some : (at covered : ℕ) (bs : List ℕ) → 0 < length (cut at covered bs) → covered < length bs
cut_some at covered [] h = absurd (omega arith)
cut_some at (suc covered) (b ∷ bs) h = omega (arith, cut_some (suc at) covered bs h)
cut_some at zero (b ∷ bs) h = omega arith

cut_rows : (at covered : ℕ) (bs : List ℕ) → Rows (at + covered) (cut at covered bs)
cut_rows at covered [] = tt
cut_rows at (suc covered) (b ∷ bs) = let same : at + suc covered ≡ suc at + covered = omega arith in rw same (cut_rows (suc at) covered bs)
cut_rows at zero (b ∷ bs) =
    let same : suc at + 23 ≡ at + 24 = omega arith in
    let size = length-take 24 (b ∷ bs) in
    rw (add-zero at)
    (rows_join at (record { first = at; bytes = take 24 (b ∷ bs) }) (cut (suc at) 23 bs) refl (omega arith) (omega arith)
    (λ h. omega (arith, cut_some (suc at) 23 bs h)) (rw same at (cut_rows (suc at) 23 bs)))

pub rows_of_24 : (first : ℕ) (bs : List ℕ) → Rows first (cut first 0 bs)
rows_of_24 first bs = rw (add-zero first) at (cut_rows first 0 bs)

cut_count : (at covered : ℕ) (bs : List ℕ) → 24 * length (cut at covered bs) ≤ length bs - covered + 23
cut_count at covered [] = omega arith
cut_count at (suc covered) (b ∷ bs) = let rest = cut_count (suc at) covered bs in omega arith
cut_count at zero (b ∷ bs) = let rest = cut_count (suc at) 23 bs in omega arith

module _ (m : List ℕ) (first last : ℕ) (full : length m ≡ full_memory) (ordered : first ≤ last) (last< : last < 65536) where
  size : length (stretch_of m first last) ≡ suc last - first
  size = length-slice first (suc last) m (omega arith)

  -- A tape of a stretch, read onto any full memory, gives the stretch and leaves all else.
  pub tape_read : Bytes m → (m' : List ℕ) → length m' ≡ full_memory
      → ((read_tape (tape_from m first last) m').answer ≡ not_refused)
      × ((read_tape (tape_from m first last) m').memory ≡ take first m' ++ stretch_of m first last ++ drop (suc last) m')
  unfolding tape_from
  tape_read small m' full' =
      let bs = stretch_of m first last in
      let fits = cut_fits first 0 (stretch_of m first last) (bytes_drop first (take (suc last) m) (bytes_take (suc last) m small)) (omega (arith, size)) in
      let few : length (cut first 0 (stretch_of m first last)) < 65536 = omega (arith, cut_count first 0 (stretch_of m first last), size) in
      let end : first + length (stretch_of m first last) ≡ suc last = omega (arith, size) in
      let read = written_read (cut first 0 (stretch_of m first last)) fits few m' full' in (
        ap (λ (l : Loaded). l.answer) read,
        ap (λ (l : Loaded). l.memory) read
            ∙ laid_cut first 0 (stretch_of m first last) m'
            ∙ rw (add-zero first) (sets-eq (stretch_of m first last) m' first (omega arith) ∙ rw end),
      )

-- The same of what stands in the buffer after a punching that was not refused.
pub punched_read : (m : List ℕ) (first last : ℕ) (buffer : List ℕ) → (tape_into m first last buffer).answer ≡ not_refused → Bytes m → last < 65536
    → (m' : List ℕ) → length m' ≡ full_memory
    → ((read_tape (written (tape_into m first last buffer)) m').answer ≡ not_refused)
    × ((read_tape (written (tape_into m first last buffer)) m').memory ≡ take first m' ++ stretch_of m first last ++ drop (suc last) m')
punched_read m first last buffer z small last< m' full' =
    let good = answered m first last buffer z in
    rw good.2 (tape_read m first last good.0 good.1 last< small m' full')

-- A buffer of 166,588 characters is always enough, and a tape of the whole memory fills it.
pub punch_room : (m : List ℕ) (first last : ℕ) (buffer : List ℕ) → length m ≡ full_memory → first ≤ last → last < 65536
    → longest_tape ≤ length buffer
    → (tape_into m first last buffer).answer ≡ not_refused
unfolding tape_into
punch_room m first last buffer full ordered last< room =
    let fits : length (tape_from m first last) ≤ length buffer = omega (arith, text_length m first last full last<) in
    rw (eq-eqb (length m) full_memory full, le-ltb last first ordered, le-ltb (length buffer) (length (tape_from m first last)) fits)

pub longest_tape_lem : (m : List ℕ) → length m ≡ full_memory → length (tape_from m 0 65535) ≡ longest_tape
unfolding tape_from
longest_tape_lem m full =
    let whole : length (stretch_of m 0 65535) ≡ 65536 = length-slice 0 (suc 65535) m (omega arith) in
    tape_size 0 0 0 (stretch_of m 0 65535) ∙ rw whole

-- Memories that agree on the stretch are punched alike, whatever stands in other pages.
pub punched_sealed : (m k : List ℕ) (first last : ℕ) → last < 65536 → length m ≡ full_memory → length k ≡ full_memory
    → ((a : ℕ) → first ≤ a → a ≤ last → slice_index m a ≡ slice_index k a) → (buffer : List ℕ) → tape_into m first last buffer ≡ tape_into k first last buffer
unfolding tape_into tape_from
punched_sealed m k first last last< f g same buffer =
    let alike : stretch_of m first last ≡ stretch_of k first last =
    ext_get_or 0 (stretch_of m first last) (stretch_of k first last)
    (length-slice first (suc last) m (omega arith) ∙ sym (length-slice first (suc last) k (omega arith)))
    (λ i h.
    let inside : i < suc last - first = rw (length-slice first (suc last) m (omega arith)) at h in
    rw (
      get_or-drop first (take (suc last) m) i 0,
      get_or-drop first (take (suc last) k) i 0,
      get_or-take (suc last) m (first + i) 0 (omega arith),
      get_or-take (suc last) k (first + i) 0 (omega arith),
    )
    (same (first + i) (omega arith) (omega arith))) in
    rw (f, g, alike)

-- a stretch of 26 bytes: a record of 24 and one of 2
pub example_tape : tape_text 0 (cut 0xFFE6 0 (replicate 26 0xFF))
    ≡ characters ";18FFE6FFFFFFFFFFFFFFFFFFFFFFFFFFFFFFFFFFFFFFFFFFFFFFFF19E5\r\n;02FFFEFFFF03FD\r\n;0000020002\r\n"
unfolding digit
example_tape = refl
