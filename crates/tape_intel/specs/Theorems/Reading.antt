-- What reading HEX means: the grammar both ways, what a refusal leaves, what a later record does.
use Rattle.std.specs.Prelude.{ℕ, ◌+◌, ◌<◌, ◌≡◌, refl, List, [], ◌∷◌, ◌++◌, length, get_or}
use Rattle.std.proofs.Math.Path.{ap}
use Rattle.std.proofs.Common.{◌∙◌, arith}
use Rattle.laws.specs.Answers.{not_refused}
use Rattle.manual.specs.Stepping.{full_memory}
use Rattle.tape_records.specs.Contents.{Stretch, Contents, laid, read_onto}
use Rattle.tape_records.specs.Grammar.{Text, Fits}
use Rattle.tape_records.specs.Lemmas.Onto.{onto_good, onto_refused, good_text, read_whole}
use Rattle.tape_records.specs.Lemmas.Laying.{Untouched, laid_untouched, laid_last}
use Rattle.tape_records.specs.Theorems.Sound.{accepted_by_grammar}
use Rattle.tape_records.specs.Theorems.Refused.{Refused, refused_there}
use Rattle.tape_records.specs.Theorems.Complete.{fits_at, whole, grammar_is_accepted, spelled_by_grammar}
use Rattle.tape_intel.specs.IntelHex.{hex_item, hex_of, read_hex}
use Rattle.tape_intel.specs.Grammar.{record_text, end_text, HexData, HexEnd, Hex, hex_text}
use Rattle.tape_intel.specs.Lemmas.Lawful.{hex_lawful}

-- What is accepted is HEX by the grammar, and what is HEX by the grammar is accepted as its records.
pub accepted_is_hex : (s : List ℕ) → (hex_of s).answer ≡ not_refused → Hex (hex_of s).records s
unfolding hex_of
accepted_is_hex s z = accepted_by_grammar hex_item HexData HexEnd hex_lawful s z

pub hex_is_accepted : (s : List ℕ) (rs : List Stretch) → Hex rs s → hex_of s ≡ whole 0 rs
unfolding hex_of
hex_is_accepted s rs t = grammar_is_accepted hex_item HexData HexEnd hex_lawful s rs t

-- What is refused is good records up to the place of the first bad one, and bad there.
pub hex_first_bad : (s : List ℕ) → ((hex_of s).answer ≡ not_refused → ⊥) → Refused hex_item HexData HexEnd 0 s (hex_of s)
unfolding hex_of
hex_first_bad s z = refused_there hex_item HexData HexEnd hex_lawful s z

module _ (s m : List ℕ) where
  -- HEX by the grammar is not refused, and leaves its records.
  pub hex_complete : (rs : List Stretch) → Hex rs s → length m ≡ full_memory → read_hex s m ≡ good_text s rs m
  unfolding read_hex
  hex_complete rs t h = ap (λ (c : Contents). read_onto s c m) (hex_is_accepted s rs t) ∙ read_whole s rs m h

  -- What is accepted is HEX by the grammar, and the memory has its records.
  pub hex_sound : (read_hex s m).answer ≡ not_refused
      → (length m ≡ full_memory) × Hex (hex_of s).records s × ((read_hex s m).memory ≡ laid (hex_of s).records m)
  unfolding read_hex
  hex_sound h = let read = onto_good s (hex_of s) m h in (read.0, accepted_is_hex s read.1, read.2)

  -- A refusal stores nothing.
  pub hex_refused_unchanged : ((read_hex s m).answer ≡ not_refused → ⊥) → (read_hex s m).memory ≡ m
  unfolding read_hex
  hex_refused_unchanged h = onto_refused s (hex_of s) m h

-- The records of HEX fit, and there are at most 65,535.
pub hex_records : (rs : List Stretch) (k : ℕ) (s : List ℕ) → Text HexData HexEnd k rs s → k < 65536 → Fits rs × (k + length rs < 65536)
hex_records [] k s t h = (tt, omega arith)
hex_records (r ∷ rs) k s t h = let rest = hex_records rs (k + 1) t.2 t.5 (omega (arith, t.4.1)) in ((t.4.0, rest.0), omega (arith, rest.1))

-- A later record overwrites an earlier one: an address has the byte of the last record that covers it, and its own if none does.
module _ (s m : List ℕ) (full : length m ≡ full_memory) where
  pub hex_last_record : (rs : List Stretch) (r : Stretch) (qs : List Stretch) → Hex (rs ++ r ∷ qs) s → (j : ℕ) → j < length r.bytes
      → Untouched (r.first + j) qs → get_or (read_hex s m).memory (r.first + j) 0 ≡ get_or r.bytes j 0
  hex_last_record rs r qs t j h u =
      let fit = fits_at rs r qs (hex_records (rs ++ r ∷ qs) 0 s t (omega arith)).0 in
      rw (hex_complete s m (rs ++ r ∷ qs) t full) (laid_last rs r qs m j h (omega (arith, fit.inside)) u)

  pub hex_no_record : (rs : List Stretch) → Hex rs s → (a : ℕ) → Untouched a rs → get_or (read_hex s m).memory a 0 ≡ get_or m a 0
  hex_no_record rs t a u = rw (hex_complete s m rs t full) (laid_untouched rs m a u)

-- What is written from records that fit is read as those records.
module _ (rs : List Stretch) (fits : Fits rs) (few : length rs < 65536) where
  pub hex_written : Hex rs (hex_text 0 rs)
  hex_written =
      spelled_by_grammar (λ r. record_text r.first r.bytes) (λ k. end_text) HexData HexEnd (λ k r g b. (g, b, refl)) (λ k b. refl) rs fits few

  pub hex_reads_back : hex_of (hex_text 0 rs) ≡ whole 0 rs
  hex_reads_back = hex_is_accepted (hex_text 0 rs) rs hex_written
