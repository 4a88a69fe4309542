-- Laws of what a rescue gives, one for each way out of the code.
use Rattle.std.specs.Prelude.{ℕ, ◌+◌, ◌*◌, ◌<◌, ◌≤◌, ◌≡◌, refl, Bool, true, false, cond, List, [], ◌∷◌, ◌++◌, ltb}
use Rattle.std.proofs.Common.{arith, length-append}
use Rattle.std.proofs.Math.ListN.{length}
use borrow.Author.Tests.{lt-ltb, le-ltb, ltb-false}
use Rattle.laws.specs.Answers.{not_refused, no_end, no_room}
use Rattle.tape_records.specs.Contents.{Stretch}
use Rattle.tape_records.specs.Grammar.{Fits, newline}
use Rattle.tape_paper.specs.Grammar.{record_text, tape_text}
use Rattle.tape_paper.specs.Lemmas.Lawful.{text_size}
use Rattle.text_writing.specs.Written.{Wrote}
use Rattle.text_writing.specs.declared.Writer.{Writer}
use Rattle.tape_records.specs.Lemmas.Writing.{from_start}
use Rattle.tape_rescuing.specs.declared.Tally.{Tally}
use Rattle.tape_rescuing.specs.Rescuing.{saved, Outcome, refused, restored, rescued}
use Rattle.tape_rescuing.specs.Lemmas.Saved.{kept_fits}
use Rattle.tape_rescuing.specs.Inner.Passing.{Passed}

-- a record has at most 523 characters with its CR LF, so that the end is no largest `usize`
text_length : (rs : List Stretch) (k : ℕ) → Fits rs → length (tape_text k rs) ≤ 523 * length rs + 13
text_length [] k f = omega (arith, text_size k [], length-append (record_text k []) newline)
text_length (r ∷ rs) k f =
    omega (
      arith,
      text_length rs (k + 1) f.1,
      text_size r.first r.bytes,
      f.0.few,
      length-append (record_text r.first r.bytes ++ newline) (tape_text (k + 1) rs),
      length-append (record_text r.first r.bytes) newline,
    )

module _ (s buffer : List ℕ) {w w' : Writer} {measured : Tally} (first : Passed (saved 0 s) w w' measured) where
  pub too_many : 65535 < measured.kept → refused no_end buffer ≡ rescued s buffer
  unfolding rescued
  too_many h = let many : 65535 < length (saved 0 s).records = omega (arith, first.keeps, h) in rw (lt-ltb 65535 (length (saved 0 s).records) many)

  module _ (start : w.at ≡ 0) (few : measured.kept ≤ 65535) where
    few_records : length (saved 0 s).records ≤ 65535
    few_records = omega (arith, first.keeps, few)

    its_size : w'.at ≡ length (tape_text 0 (saved 0 s).records)
    its_size = omega (arith, (first.writes (omega arith)).wrote.ends, text_length (saved 0 s).records 0 (kept_fits 0 s), few_records)

    pub no_room_lem : length buffer < w'.at → refused no_room buffer ≡ rescued s buffer
    unfolding rescued
    no_room_lem h =
        let short : length buffer < length (tape_text 0 (saved 0 s).records) = omega (arith, its_size, h) in
        rw (le-ltb 65535 (length (saved 0 s).records) few_records, lt-ltb (length buffer) (length (tape_text 0 (saved 0 s).records)) short)

    pub all_written : w'.at ≤ length buffer → {v v' : Writer} {p : Tally} → v.out.now ≡ buffer → v.at ≡ 0 → Passed (saved 0 s) v v' p
        → {size : ℕ} {buffer' : List ℕ} → size ≡ v'.at → buffer' ≡ v'.out.now
        → record { answer = not_refused; size = size; kept = p.kept; dropped = p.dropped; first = p.first; buffer = buffer' } ≡ rescued s buffer
    unfolding rescued
    all_written h {v} {v'} {p} same begins pass {size} {buffer'} sized left =
        let holds : length (tape_text 0 (saved 0 s).records) ≤ length buffer = omega (arith, its_size, h) in
        let wrote : Wrote buffer 0 (tape_text 0 (saved 0 s).records) buffer' size = from_start same begins (pass.writes (omega (arith, pass.keeps, few_records))) sized left in
        let long : size ≡ length (tape_text 0 (saved 0 s).records) = omega (arith, wrote.ends, wrote.fits, holds) in
        rw (
          le-ltb 65535 (length (saved 0 s).records) few_records,
          le-ltb (length buffer) (length (tape_text 0 (saved 0 s).records)) holds,
          long,
          pass.keeps,
          pass.drops,
          pass.begins,
          wrote.bytes,
        )

-- no text is longer than its buffer
pub rescued_fits : (s buffer : List ℕ) {x : Outcome} → x ≡ rescued s buffer → x.size ≤ length buffer
unfolding rescued
rescued_fits s buffer e =
    rw e (by_tests (ltb 65535 (length (saved 0 s).records)) (ltb (length buffer) (length (tape_text 0 (saved 0 s).records))) refl)
  where
    by_tests : (b t : Bool) → ltb (length buffer) (length (tape_text 0 (saved 0 s).records)) ≡ t
        → (cond b (refused no_end buffer) (cond t (refused no_room buffer) (restored (saved 0 s) buffer))).size ≤ length buffer
    by_tests true t g = omega arith
    by_tests false true g = omega arith
    by_tests false false g = ltb-false (length buffer) (length (tape_text 0 (saved 0 s).records)) g

-- What was not refused is written.
pub answered : (s buffer : List ℕ) → (rescued s buffer).answer ≡ not_refused
    → (length (saved 0 s).records ≤ 65535) × (length (tape_text 0 (saved 0 s).records) ≤ length buffer) × (rescued s buffer ≡ restored (saved 0 s) buffer)
unfolding rescued
answered s buffer z =
    by_tests (ltb 65535 (length (saved 0 s).records)) (ltb (length buffer) (length (tape_text 0 (saved 0 s).records))) refl refl z
  where
    by_tests : (b t : Bool) → ltb 65535 (length (saved 0 s).records) ≡ b → ltb (length buffer) (length (tape_text 0 (saved 0 s).records)) ≡ t
        → (cond b (refused no_end buffer) (cond t (refused no_room buffer) (restored (saved 0 s) buffer))).answer ≡ not_refused
        → (length (saved 0 s).records ≤ 65535) × (length (tape_text 0 (saved 0 s).records) ≤ length buffer)
        × (cond b (refused no_end buffer) (cond t (refused no_room buffer) (restored (saved 0 s) buffer)) ≡ restored (saved 0 s) buffer)
    by_tests true t f g y = absurd (omega arith)
    by_tests false true f g y = absurd (omega arith)
    by_tests false false f g y =
        (ltb-false 65535 (length (saved 0 s).records) f, ltb-false (length buffer) (length (tape_text 0 (saved 0 s).records)) g, refl)
