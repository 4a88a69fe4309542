-- A good text of either kind is read as what it is, and a text of neither kind is refused.
use Rattle.std.specs.Prelude.{ℕ, suc, ◌+◌, ◌<◌, ◌≤◌, ◌≡◌, refl, Bool, true, false, cond, List, [], ◌∷◌, ◌++◌, eqb, length, get_or}
use Rattle.std.proofs.Common.{ap, ◌∙◌, arith, eq-eqb, ne_eqb}
use Rattle.std.proofs.Math.Option.{none}
use Rattle.laws.specs.Answers.{malformed_record}
use Rattle.tape_records.specs.Records.{separator, only_separators, record_of}
use Rattle.tape_records.specs.Contents.{Stretch, Contents, judged, contents, read_onto}
use Rattle.tape_records.specs.Grammar.{Gap, Text}
use Rattle.tape_records.specs.Inner.Gaps.{gap_length, gap_end}
use Rattle.tape_records.specs.Lemmas.Whole.{never}
use Rattle.tape_paper.specs.Tapes.{tape_item, tape_of, read_tape}
use Rattle.tape_paper.specs.Grammar.{TapeData, TapeEnd}
use Rattle.tape_intel.specs.IntelHex.{hex_of, read_hex}
use Rattle.tape_intel.specs.Grammar.{HexData, HexEnd}
use Rattle.tape_loading.specs.declared.Format.{Format}
use Rattle.tape_loading.specs.declared.Format.TheVariants.{Tape, Hex}
use Rattle.tape_loading.specs.Inner.Formats.{contents_of}
use Rattle.tape_loading.specs.Texts.{first_mark, format_of, read_text}

-- where the first mark stands
mark_in : (s : List ℕ) → gap_length s < length s → get_or s (gap_length s) 0 ≡ first_mark s
mark_in [] h = absurd (omega arith)
mark_in (c ∷ s) h = by_case (separator c) h (mark_in s)
  where
    by_case : (b : Bool) → cond b (suc (gap_length s)) 0 < suc (length s) → (gap_length s < length s → get_or s (gap_length s) 0 ≡ first_mark s)
        → get_or (c ∷ s) (cond b (suc (gap_length s)) 0) 0 ≡ cond b (first_mark s) c
    by_case true g further = further (omega arith)
    by_case false g further = refl

no_mark_in : (s : List ℕ) → length s ≤ gap_length s → first_mark s ≡ 0
no_mark_in [] h = refl
no_mark_in (c ∷ s) h = by_case (separator c) h (no_mark_in s)
  where
    by_case : (b : Bool) → suc (length s) ≤ cond b (suc (gap_length s)) 0 → (length s ≤ gap_length s → first_mark s ≡ 0) → cond b (first_mark s) c ≡ 0
    by_case true g further = further (omega arith)
    by_case false g further = absurd (omega arith)

-- the format, from what the code finds where the first gap ends
module _ (s : List ℕ) {place : ℕ} (ends : place ≡ gap_end s 0) where
  at_start : place ≡ gap_length s
  at_start = omega (arith, ends)

  pub no_format : length s ≤ place → Tape ≡ format_of s
  no_format h = rw (no_mark_in s (omega (arith, at_start)))

  module _ (h : place < length s) where
    its_mark : get_or s place 0 ≡ first_mark s
    its_mark = ap (λ (n : ℕ). get_or s n 0) at_start ∙ mark_in s (omega (arith, at_start))

    pub hex_format : get_or s place 0 ≡ 58 → Hex ≡ format_of s
    hex_format e = rw (eq-eqb (first_mark s) 58 (omega (arith, its_mark)))

    pub tape_format : (get_or s place 0 ≡ 58 → ⊥) → Tape ≡ format_of s
    tape_format e = rw (ne_eqb (first_mark s) 58 (λ z. e (its_mark ∙ z)))

-- what the reader of that format leaves
pub by_format : (s m : List ℕ) {f : Format} → f ≡ format_of s → read_onto s (contents_of f s) m ≡ read_text s m
unfolding read_text read_hex read_tape hex_of tape_of
by_format s m e = rw e (by_case (eqb (first_mark s) 58))
  where
    by_case : (b : Bool) → read_onto s (contents_of (cond b Hex Tape) s) m ≡ cond b (read_hex s m) (read_tape s m)
    by_case true = refl
    by_case false = refl

-- the first mark of a good text is that of its first record
after_gap : (g s : List ℕ) → Gap g → first_mark (g ++ s) ≡ first_mark s
after_gap [] s h = refl
after_gap (c ∷ g) s h = by_case (separator c) h (after_gap g s)
  where
    by_case : (b : Bool) → cond b (only_separators g) false ≡ true → (Gap g → first_mark (g ++ s) ≡ first_mark s) → cond b (first_mark (g ++ s)) c ≡ first_mark s
    by_case true e further = further e
    by_case false e further = never (cc)

module _ (mark k : ℕ) (Data : ℕ → Stretch → List ℕ → Type 0) (End : ℕ → List ℕ → Type 0)
    (data-starts : (r : Stretch) (d s : List ℕ) → Data k r d → first_mark (d ++ s) ≡ mark)
    (end-starts : (e s : List ℕ) → End k e → first_mark (e ++ s) ≡ mark)
  where
    text_starts : (rs : List Stretch) (s : List ℕ) → Text Data End k rs s → first_mark s ≡ mark
    text_starts [] s t = rw t.6 (after_gap t.0 (t.1 ++ t.2) t.3 ∙ end-starts t.1 t.2 t.4)
    text_starts (r ∷ rs) s t = rw t.6 (after_gap t.0 (t.1 ++ t.2) t.3 ∙ data-starts r t.1 t.2 t.4)

module _ (rs : List Stretch) (s : List ℕ) where
  tape_starts : Text TapeData TapeEnd 0 rs s → first_mark s ≡ 59
  unfolding separator
  tape_starts t = text_starts 59 0 TapeData TapeEnd (λ r d s e. rw e.1) (λ e s f. rw f.1) rs s t

  hex_starts : Text HexData HexEnd 0 rs s → first_mark s ≡ 58
  unfolding separator
  hex_starts t = text_starts 58 0 HexData HexEnd (λ r d s e. rw e.2) (λ e s f. rw f) rs s t

  pub tape_by_mark : Text TapeData TapeEnd 0 rs s → (m : List ℕ) → read_text s m ≡ read_tape s m
  unfolding read_text
  tape_by_mark t m = rw (tape_starts t)

  pub hex_by_mark : Text HexData HexEnd 0 rs s → (m : List ℕ) → read_text s m ≡ read_hex s m
  unfolding read_text
  hex_by_mark t m = rw (hex_starts t)

-- a text without a mark of either kind is malformed, and one that has nothing but separators has no end record
not_marked : (c : ℕ) (s : List ℕ) → (c ≡ 59 → ⊥) → record_of 59 (c ∷ s) ≡ none
unfolding record_of
not_marked c s h = rw (ne_eqb c 59 h)

no_item : (c : ℕ) (s : List ℕ) (more : ℕ → Contents) → (c ≡ 59 → ⊥) → (judged (tape_item 0 (c ∷ s)) 0 (c ∷ s) more).answer ≡ malformed_record
unfolding tape_item
no_item c s more h = rw (not_marked c s h)

no_tape : (s : List ℕ) → (first_mark s ≡ 59 → ⊥) → (contents tape_item 0 0 s).answer ≡ cond (only_separators s) 8 5
no_tape [] h = refl
no_tape (c ∷ s) h = by_case (separator c) h (no_tape s)
  where
    by_case : (b : Bool) → (cond b (first_mark s) c ≡ 59 → ⊥) → ((first_mark s ≡ 59 → ⊥) → (contents tape_item 0 0 s).answer ≡ cond (only_separators s) 8 5)
        → (cond b (contents tape_item 0 0 s) (judged (tape_item 0 (c ∷ s)) 0 (c ∷ s) (λ passed. contents tape_item passed (0 + 1) s))).answer
        ≡ cond (cond b (only_separators s) false) 8 5
    by_case true g further = further g
    by_case false g further = no_item c s (λ passed. contents tape_item passed (0 + 1) s) g

pub neither_kind : (s : List ℕ) → (first_mark s ≡ 58 → ⊥) → (first_mark s ≡ 59 → ⊥)
    → (format_of s ≡ Tape) × ((tape_of s).answer ≡ cond (only_separators s) 8 5)
unfolding tape_of
neither_kind s h g = (rw (ne_eqb (first_mark s) 58 h), no_tape s g)
