-- The same of what a rescue leaves in its buffer: it is always accepted by the reader, and a sound tape comes back.
use Rattle.std.specs.Prelude.{ℕ, ◌≤◌, ◌≡◌, List, take}
use Rattle.std.proofs.Common.{ap, sym, ◌∙◌, arith}
use Rattle.std.proofs.Math.ListN.{length}
use borrow.Author.Tests.{le-ltb}
use Rattle.laws.specs.Answers.{not_refused}
use Rattle.manual.specs.Stepping.{full_memory}
use Rattle.text_writing.specs.Lemmas.Delivered.{at_front}
use Rattle.tape_records.specs.Contents.{Stretch}
use Rattle.tape_records.specs.Theorems.Complete.{whole}
use Rattle.tape_paper.specs.Tapes.{tape_of, read_tape}
use Rattle.tape_paper.specs.Grammar.{Tape, tape_text}
use Rattle.tape_records.specs.Lemmas.Onto.{good_text}
use Rattle.tape_paper.specs.Theorems.Reading.{tape_records_lem, written_read}
use Rattle.tape_rescuing.specs.Rescuing.{saved, Outcome, restored, rescued}
use Rattle.tape_rescuing.specs.Lemmas.Saved.{kept_fits, kept_accepted, sound_kept}
use Rattle.tape_rescuing.specs.Lemmas.Outcomes.{answered}

-- the text that stands at the buffer's start
abbrev pub written : Outcome → List ℕ
written x = take x.size x.buffer

module _ (s buffer : List ℕ) (good : (rescued s buffer).answer ≡ not_refused) where
  pub its_text : written (rescued s buffer) ≡ tape_text 0 (saved 0 s).records
  its_text = let known = answered s buffer good in ap written known.2 ∙ at_front (tape_text 0 (saved 0 s).records) buffer known.1

  -- What comes out is accepted, as the records that were kept.
  pub rescued_accepted : tape_of (written (rescued s buffer)) ≡ whole 0 (saved 0 s).records
  rescued_accepted = let known = answered s buffer good in rw its_text (kept_accepted s (omega (arith, known.0)))

  pub rescued_read : (m : List ℕ) → length m ≡ full_memory
      → read_tape (written (rescued s buffer)) m ≡ good_text (written (rescued s buffer)) (saved 0 s).records m
  rescued_read m full = let known = answered s buffer good in rw its_text (written_read (saved 0 s).records (kept_fits 0 s) (omega (arith, known.0)) m full)

-- A sound tape in any spelling is rescued whole, if the buffer holds it: all is kept, and nothing dropped.
module _ (s buffer : List ℕ) (rs : List Stretch) (sound : Tape rs s) (room : length (tape_text 0 rs) ≤ length buffer) where
  pub sound_rescued : rescued s buffer ≡ restored (record { records = rs; dropped = 0; first = length s }) buffer
  unfolding rescued
  sound_rescued =
      let few : length rs ≤ 65535 = omega (arith, (tape_records_lem rs 0 s sound).1) in
      rw (sound_kept s rs sound, le-ltb 65535 (length rs) few, le-ltb (length buffer) (length (tape_text 0 rs)) room)

  -- In the one spelling it comes back unchanged.
  pub sound_back : s ≡ tape_text 0 rs → written (rescued s buffer) ≡ s
  sound_back e = ap written sound_rescued ∙ at_front (tape_text 0 rs) buffer room ∙ sym e
