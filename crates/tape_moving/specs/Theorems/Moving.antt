-- What moving means: there and back, the memories that either text leaves, and what a refusal leaves.
use Rattle.std.specs.Prelude.{◌≡◌, ℕ, ◌*◌, ◌<◌, ◌≤◌, Bool, true, false, cond, not, List, [], ◌∷◌, length, ◌==◌, ◌≢◌, nat_lt, refl}
use Rattle.std.proofs.Math.Path.{ap}
use Rattle.std.proofs.Common.{sym, ◌∙◌, arith, eq-eqb, ne_eqb, eqb-true, le-ltb}
use Rattle.std.proofs.lemmas.List.Edits.{sets}
use Rattle.std.proofs.lemmas.Bool.{eqb-false}
use Rattle.laws.specs.Answers.{not_refused, memory_not_full, no_room}
use Rattle.manual.specs.Stepping.{full_memory}
use Rattle.laws.specs.Characters.{characters}
use Rattle.text_writing.specs.Numerals.{digit}
use Rattle.text_writing.specs.Delivered.{refused, delivered}
use Rattle.text_writing.specs.Lemmas.Delivered.{written, all_there}
use Rattle.tape_records.specs.Contents.{Stretch, Contents, Loaded, laid, outcome, read_onto}
use Rattle.tape_records.specs.Grammar.{Fits}
use Rattle.tape_paper.specs.Tapes.{tape_item, tape_of, read_tape}
use Rattle.tape_paper.specs.Grammar.{TapeData, TapeEnd, Tape, tape_text}
use Rattle.tape_paper.specs.Lemmas.Lawful.{tape_lawful}
use Rattle.tape_paper.specs.Theorems.Reading.{accepted_is_a_tape, tape_is_accepted, tape_records_lem, reads_back}
use Rattle.tape_intel.specs.IntelHex.{hex_item, hex_of, read_hex}
use Rattle.tape_intel.specs.Grammar.{HexData, HexEnd, Hex, hex_text}
use Rattle.tape_intel.specs.Lemmas.Lawful.{hex_lawful}
use Rattle.tape_intel.specs.Theorems.Reading.{accepted_is_hex, hex_is_accepted, hex_records, hex_reads_back}
use Rattle.tape_loading.specs.declared.Format.TheVariants.{Tape as InTape, Hex as InHex}
use Rattle.tape_moving.specs.Lemmas.Lines.{twice_enough}
use Rattle.tape_moving.specs.Moving.{moved_as, tape_to_hex, hex_to_tape, new_text}

-- The records of an accepted text are those of the new one.
moved_to_hex : (s : List ℕ) → (tape_of s).answer ≡ not_refused → hex_of (hex_text 0 (tape_of s).records) ≡ tape_of s
moved_to_hex s z =
    let is-tape = accepted_is_a_tape s z in
    let fit = tape_records_lem (tape_of s).records 0 s is-tape in
    hex_reads_back (tape_of s).records fit.0 (omega (arith, fit.1)) ∙ sym (tape_is_accepted s (tape_of s).records is-tape)

moved_to_tape : (s : List ℕ) → (hex_of s).answer ≡ not_refused → tape_of (tape_text 0 (hex_of s).records) ≡ hex_of s
moved_to_tape s z =
    let is-hex = accepted_is_hex s z in
    let fit = hex_records (hex_of s).records 0 s is-hex (omega arith) in
    reads_back (hex_of s).records fit.0 (omega (arith, fit.1)) ∙ sym (hex_is_accepted s (hex_of s).records is-hex)

-- Two texts with the same contents leave the same memory, with the same answer and as many good records.
abbrev pub Alike : Loaded → Loaded → Type 0
Alike a b = (a.answer ≡ b.answer) × (a.good ≡ b.good) × (a.memory ≡ b.memory)

same_contents : (s t : List ℕ) (c : Contents) (m : List ℕ) → Alike (read_onto s c m) (read_onto t c m)
same_contents s t c m = by_length (length m == full_memory) (cond (c.answer == not_refused) (laid c.records m) m)
  where
    by_length : (b : Bool) (m' : List ℕ)
        → Alike (cond (not b) (record { answer = memory_not_full; good = 0; place = 0; memory = m }) (outcome s c m'))
        (cond (not b) (record { answer = memory_not_full; good = 0; place = 0; memory = m }) (outcome t c m'))
    by_length true m' = (refl, refl, refl)
    by_length false m' = (refl, refl, refl)

-- a move by its contents and its text
module _ (s : List ℕ) (c : Contents) (t buffer : List ℕ) where
  good_written : (moved_as s c t buffer).answer ≡ not_refused → (c.answer ≡ not_refused) × (new_text (moved_as s c t buffer) ≡ t)
  good_written h = by_answer (c.answer == not_refused) refl h
    where
      by_answer : (b : Bool) → (c.answer == not_refused) ≡ b → (cond b (delivered t buffer) (refused c.answer buffer)).answer ≡ not_refused
          → (c.answer ≡ not_refused) × (written (cond b (delivered t buffer) (refused c.answer buffer)) ≡ t)
      by_answer true e z = (eqb-true c.answer not_refused e, all_there t buffer z)
      by_answer false e z = absurd (eqb-false c.answer not_refused e z)

  refused_unwritten : ((moved_as s c t buffer).answer ≢ not_refused)
      → ((moved_as s c t buffer).size ≡ 0) × ((moved_as s c t buffer).buffer ≡ buffer)
  refused_unwritten h = by_answer (c.answer == not_refused) h
    where
      by_room : (b : Bool) → ((cond b (refused no_room buffer) (record { answer = not_refused; size = length t; buffer = sets buffer 0 t })).answer ≢ not_refused)
          → ((cond b (refused no_room buffer) (record { answer = not_refused; size = length t; buffer = sets buffer 0 t })).size ≡ 0)
          × ((cond b (refused no_room buffer) (record { answer = not_refused; size = length t; buffer = sets buffer 0 t })).buffer ≡ buffer)
      by_room true g = (refl, refl)
      by_room false g = absurd (g refl)

      by_answer : (b : Bool) → ((cond b (delivered t buffer) (refused c.answer buffer)).answer ≢ not_refused)
          → ((cond b (delivered t buffer) (refused c.answer buffer)).size ≡ 0)
          × ((cond b (delivered t buffer) (refused c.answer buffer)).buffer ≡ buffer)
      by_answer true g = by_room (nat_lt (length buffer) (length t)) g
      by_answer false g = (refl, refl)

  -- a good text is moved if the buffer holds the new one, and a bad one is refused with its reason before that is looked at
  good_moved : c.answer ≡ not_refused → length t ≤ length buffer → (moved_as s c t buffer).answer ≡ not_refused
  good_moved z h = rw (eq-eqb c.answer not_refused z, le-ltb (length buffer) (length t) h)

  bad_unmoved : (c.answer ≢ not_refused) → (moved_as s c t buffer).answer ≡ c.answer
  bad_unmoved h = rw (ne_eqb c.answer not_refused h)

module _ (s buffer : List ℕ) where
  -- A good text is not refused if there is room.
  pub tape_moved : (rs : List Stretch) → Tape rs s → length (hex_text 0 rs) ≤ length buffer → (tape_to_hex s buffer).answer ≡ not_refused
  unfolding tape_to_hex
  tape_moved rs t h =
      let its = tape_is_accepted s rs t in
      good_moved s (tape_of s) (hex_text 0 (tape_of s).records) buffer (ap (λ (c : Contents). c.answer) its)
      (omega (arith, h, ap (λ (c : Contents). length (hex_text 0 c.records)) its))

  pub hex_moved : (rs : List Stretch) → Hex rs s → length (tape_text 0 rs) ≤ length buffer → (hex_to_tape s buffer).answer ≡ not_refused
  unfolding hex_to_tape
  hex_moved rs t h =
      let its = hex_is_accepted s rs t in
      good_moved s (hex_of s) (tape_text 0 (hex_of s).records) buffer (ap (λ (c : Contents). c.answer) its)
      (omega (arith, h, ap (λ (c : Contents). length (tape_text 0 c.records)) its))

  -- There is, in a buffer twice as long as the text.
  pub tape_room : (rs : List Stretch) → Tape rs s → 2 * length s ≤ length buffer → (tape_to_hex s buffer).answer ≡ not_refused
  tape_room rs t h = tape_moved rs t (omega (arith, h, twice_enough InHex tape_item TapeData TapeEnd tape_lawful rs 0 s t))

  pub hex_room : (rs : List Stretch) → Hex rs s → 2 * length s ≤ length buffer → (hex_to_tape s buffer).answer ≡ not_refused
  hex_room rs t h = hex_moved rs t (omega (arith, h, twice_enough InTape hex_item HexData HexEnd hex_lawful rs 0 s t))

  -- A bad one is refused as the reader refuses it.
  pub tape_refused : ((tape_of s).answer ≢ not_refused) → (tape_to_hex s buffer).answer ≡ (tape_of s).answer
  unfolding tape_to_hex
  tape_refused h = bad_unmoved s (tape_of s) (hex_text 0 (tape_of s).records) buffer h

  pub hex_refused : ((hex_of s).answer ≢ not_refused) → (hex_to_tape s buffer).answer ≡ (hex_of s).answer
  unfolding hex_to_tape
  hex_refused h = bad_unmoved s (hex_of s) (tape_text 0 (hex_of s).records) buffer h

  -- A refusal writes nothing, and the length is 0.
  pub tape_unmoved : ((tape_to_hex s buffer).answer ≢ not_refused) → ((tape_to_hex s buffer).size ≡ 0) × ((tape_to_hex s buffer).buffer ≡ buffer)
  unfolding tape_to_hex
  tape_unmoved h = refused_unwritten s (tape_of s) (hex_text 0 (tape_of s).records) buffer h

  pub hex_unmoved : ((hex_to_tape s buffer).answer ≢ not_refused) → ((hex_to_tape s buffer).size ≡ 0) × ((hex_to_tape s buffer).buffer ≡ buffer)
  unfolding hex_to_tape
  hex_unmoved h = refused_unwritten s (hex_of s) (tape_text 0 (hex_of s).records) buffer h

  tape_text_lem : (tape_to_hex s buffer).answer ≡ not_refused → ((tape_of s).answer ≡ not_refused) × (new_text (tape_to_hex s buffer) ≡ hex_text 0 (tape_of s).records)
  unfolding tape_to_hex
  tape_text_lem h = good_written s (tape_of s) (hex_text 0 (tape_of s).records) buffer h

  hex_text_lem : (hex_to_tape s buffer).answer ≡ not_refused → ((hex_of s).answer ≡ not_refused) × (new_text (hex_to_tape s buffer) ≡ tape_text 0 (hex_of s).records)
  unfolding hex_to_tape
  hex_text_lem h = good_written s (hex_of s) (tape_text 0 (hex_of s).records) buffer h

  its_hex : (tape_to_hex s buffer).answer ≡ not_refused → hex_of (new_text (tape_to_hex s buffer)) ≡ tape_of s
  its_hex h = let text = tape_text_lem h in rw text.1 (moved_to_hex s text.0)

  its_tape : (hex_to_tape s buffer).answer ≡ not_refused → tape_of (new_text (hex_to_tape s buffer)) ≡ hex_of s
  its_tape h = let text = hex_text_lem h in rw text.1 (moved_to_tape s text.0)

  -- Either text read onto equal memories leaves equal memories.
  pub tape_to_hex_read : (tape_to_hex s buffer).answer ≡ not_refused → (m : List ℕ) → Alike (read_hex (new_text (tape_to_hex s buffer)) m) (read_tape s m)
  unfolding read_hex read_tape
  tape_to_hex_read h m = rw (its_hex h) (same_contents (new_text (tape_to_hex s buffer)) s (tape_of s) m)

  pub hex_to_tape_read : (hex_to_tape s buffer).answer ≡ not_refused → (m : List ℕ) → Alike (read_tape (new_text (hex_to_tape s buffer)) m) (read_hex s m)
  unfolding read_hex read_tape
  hex_to_tape_read h m = rw (its_tape h) (same_contents (new_text (hex_to_tape s buffer)) s (hex_of s) m)

-- A text in the one spelling, moved there and back, is the same text byte for byte.
module _ (s buffer back : List ℕ) where
  module _ (spelling : s ≡ tape_text 0 (tape_of s).records) (there : (tape_to_hex s buffer).answer ≡ not_refused) where
    pub tape_back_again : (hex_to_tape (new_text (tape_to_hex s buffer)) back).answer ≡ not_refused → new_text (hex_to_tape (new_text (tape_to_hex s buffer)) back) ≡ s
    tape_back_again h =
        (hex_text_lem (new_text (tape_to_hex s buffer)) back h).1
        ∙ ap (λ (c : Contents). tape_text 0 c.records) (its_hex s buffer there)
        ∙ sym spelling

    -- and it is moved back into every buffer that holds it
    pub tape_moved_back : length s ≤ length back → (hex_to_tape (new_text (tape_to_hex s buffer)) back).answer ≡ not_refused
    tape_moved_back h =
        let its = its_hex s buffer there in
        let good : (hex_of (new_text (tape_to_hex s buffer))).answer ≡ not_refused = ap (λ (c : Contents). c.answer) its ∙ (tape_text_lem s buffer there).0 in
        hex_moved (new_text (tape_to_hex s buffer)) back (hex_of (new_text (tape_to_hex s buffer))).records (accepted_is_hex (new_text (tape_to_hex s buffer)) good)
        (omega (arith, ap (λ (c : Contents). length (tape_text 0 c.records)) its, ap length spelling, h))

  module _ (spelling : s ≡ hex_text 0 (hex_of s).records) (there : (hex_to_tape s buffer).answer ≡ not_refused) where
    pub hex_back_again : (tape_to_hex (new_text (hex_to_tape s buffer)) back).answer ≡ not_refused → new_text (tape_to_hex (new_text (hex_to_tape s buffer)) back) ≡ s
    hex_back_again h =
        (tape_text_lem (new_text (hex_to_tape s buffer)) back h).1
        ∙ ap (λ (c : Contents). hex_text 0 c.records) (its_tape s buffer there)
        ∙ sym spelling

    pub hex_moved_back : length s ≤ length back → (tape_to_hex (new_text (hex_to_tape s buffer)) back).answer ≡ not_refused
    hex_moved_back h =
        let its = its_tape s buffer there in
        let good : (tape_of (new_text (hex_to_tape s buffer))).answer ≡ not_refused = ap (λ (c : Contents). c.answer) its ∙ (hex_text_lem s buffer there).0 in
        tape_moved (new_text (hex_to_tape s buffer)) back (tape_of (new_text (hex_to_tape s buffer))).records (accepted_is_a_tape (new_text (hex_to_tape s buffer)) good)
        (omega (arith, ap (λ (c : Contents). length (hex_text 0 c.records)) its, ap length spelling, h))

-- what is written from records that fit is in that spelling
pub one_spelling : (rs : List Stretch) → Fits rs → length rs < 65536
    → (tape_text 0 rs ≡ tape_text 0 (tape_of (tape_text 0 rs)).records) × (hex_text 0 rs ≡ hex_text 0 (hex_of (hex_text 0 rs)).records)
one_spelling rs f h = (rw (reads_back rs f h), rw (hex_reads_back rs f h))

-- the same records in either format
pub example_texts :
    (tape_text 0 (record { first = 0x0200; bytes = 1 ∷ 2 ∷ [] } ∷ record { first = 0xFFFF; bytes = 0xA9 ∷ [] } ∷ [])
    ≡ characters ";02020001020007\r\n;01FFFFA902A8\r\n;0000020002\r\n")
    × (hex_text 0 (record { first = 0x0200; bytes = 1 ∷ 2 ∷ [] } ∷ record { first = 0xFFFF; bytes = 0xA9 ∷ [] } ∷ [])
    ≡ characters ":020200000102F9\r\n:01FFFF00A958\r\n:00000001FF\r\n")
unfolding digit
example_texts = (refl, refl)
