-- What reading a tape means: the grammar both ways, what a refusal leaves, what a later record does.
use Rattle.std.specs.Prelude.{ℕ, ◌+◌, ◌<◌, ◌≡◌, refl, List, [], ◌∷◌, ◌++◌, length, get_or}
use Rattle.std.proofs.Math.Path.{ap}
use Rattle.std.proofs.Common.{◌∙◌, arith}
use Rattle.laws.specs.Answers.{not_refused}
use Rattle.manual.specs.Stepping.{full_memory}
use Rattle.tape_records.specs.Contents.{Stretch, Contents, laid, read_onto}
use Rattle.tape_records.specs.Grammar.{Text, Fits}
use Rattle.tape_records.specs.Lemmas.Onto.{onto_good, onto_refused, good_text, read_whole}
use Rattle.tape_records.specs.Lemmas.Laying.{Untouched, laid_untouched, laid_last}
use Rattle.tape_paper.specs.Tapes.{tape_item, tape_of, read_tape}
use Rattle.tape_records.specs.Theorems.Sound.{accepted_by_grammar}
use Rattle.tape_records.specs.Theorems.Refused.{Refused, refused_there}
use Rattle.tape_records.specs.Theorems.Complete.{fits_at, whole, grammar_is_accepted, spelled_by_grammar}
use Rattle.tape_paper.specs.Grammar.{record_text, TapeData, TapeEnd, Tape, tape_text}
use Rattle.tape_paper.specs.Lemmas.Lawful.{tape_lawful}

-- What is accepted is a tape by the grammar, and what is a tape by the grammar is accepted as its records.
pub accepted_is_a_tape : (s : List ℕ) → (tape_of s).answer ≡ not_refused → Tape (tape_of s).records s
unfolding tape_of
accepted_is_a_tape s z = accepted_by_grammar tape_item TapeData TapeEnd tape_lawful s z

pub tape_is_accepted : (s : List ℕ) (rs : List Stretch) → Tape rs s → tape_of s ≡ whole 0 rs
unfolding tape_of
tape_is_accepted s rs t = grammar_is_accepted tape_item TapeData TapeEnd tape_lawful s rs t

-- What is refused is good records up to the place of the first bad one, and bad there.
pub first_bad : (s : List ℕ) → ((tape_of s).answer ≡ not_refused → ⊥) → Refused tape_item TapeData TapeEnd 0 s (tape_of s)
unfolding tape_of
first_bad s z = refused_there tape_item TapeData TapeEnd tape_lawful s z

module _ (s m : List ℕ) where
  -- A tape by the grammar is not refused, and leaves its records.
  pub read_complete : (rs : List Stretch) → Tape rs s → length m ≡ full_memory → read_tape s m ≡ good_text s rs m
  unfolding read_tape
  read_complete rs t h = ap (λ (c : Contents). read_onto s c m) (tape_is_accepted s rs t) ∙ read_whole s rs m h

  -- What is accepted is a tape by the grammar, and the memory has its records.
  pub read_sound : (read_tape s m).answer ≡ not_refused
      → (length m ≡ full_memory) × Tape (tape_of s).records s × ((read_tape s m).memory ≡ laid (tape_of s).records m)
  unfolding read_tape
  read_sound h = let read = onto_good s (tape_of s) m h in (read.0, accepted_is_a_tape s read.1, read.2)

  -- A refusal stores nothing.
  pub refused_unchanged : ((read_tape s m).answer ≡ not_refused → ⊥) → (read_tape s m).memory ≡ m
  unfolding read_tape
  refused_unchanged h = onto_refused s (tape_of s) m h

-- The records of a tape fit, and there are at most 65,535.
pub tape_records_lem : (rs : List Stretch) (k : ℕ) (s : List ℕ) → Text TapeData TapeEnd k rs s → Fits rs × (k + length rs < 65536)
tape_records_lem [] k s t = (tt, omega (arith, t.4.0))
tape_records_lem (r ∷ rs) k s t = let rest = tape_records_lem rs (k + 1) t.2 t.5 in ((t.4.0, rest.0), omega (arith, rest.1))

-- A later record overwrites an earlier one: an address has the byte of the last record that covers it, and its own if none does.
module _ (s m : List ℕ) (full : length m ≡ full_memory) where
  pub last_record : (rs : List Stretch) (r : Stretch) (qs : List Stretch) → Tape (rs ++ r ∷ qs) s → (j : ℕ) → j < length r.bytes
      → Untouched (r.first + j) qs → get_or (read_tape s m).memory (r.first + j) 0 ≡ get_or r.bytes j 0
  last_record rs r qs t j h u =
      let fit = fits_at rs r qs (tape_records_lem (rs ++ r ∷ qs) 0 s t).0 in
      rw (read_complete s m (rs ++ r ∷ qs) t full) (laid_last rs r qs m j h (omega (arith, fit.inside)) u)

  pub no_record : (rs : List Stretch) → Tape rs s → (a : ℕ) → Untouched a rs → get_or (read_tape s m).memory a 0 ≡ get_or m a 0
  no_record rs t a u = rw (read_complete s m rs t full) (laid_untouched rs m a u)

-- What is written from records that fit is read as those records.
module _ (rs : List Stretch) (fits : Fits rs) (few : length rs < 65536) where
  pub written : Tape rs (tape_text 0 rs)
  written =
      spelled_by_grammar (λ r. record_text r.first r.bytes) (λ k. record_text k []) TapeData TapeEnd (λ k r f h. (f, refl)) (λ k h. (h, refl)) rs fits few

  pub reads_back : tape_of (tape_text 0 rs) ≡ whole 0 rs
  reads_back = tape_is_accepted (tape_text 0 rs) rs written

  pub written_read : (m : List ℕ) → length m ≡ full_memory → read_tape (tape_text 0 rs) m ≡ good_text (tape_text 0 rs) rs m
  written_read m f = read_complete (tape_text 0 rs) m rs written f
