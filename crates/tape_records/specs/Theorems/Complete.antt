-- What is a text by the grammar is accepted, and read as its records. Once for every format.
use Rattle.std.specs.Prelude.{◌≡◌, ℕ, suc, ◌+◌, ◌*◌, ◌<◌, Bool, true, false, cond, List, [], ◌∷◌, ◌++◌, length, drop, refl}
use Rattle.std.proofs.Common.{ap, ◌∙◌, append_assoc, arith, drop_at}
use Rattle.laws.specs.Answers.{not_refused}
use Rattle.tape_records.specs.Records.{separator, only_separators}
use Rattle.tape_records.specs.Contents.{Stretch, Item, Contents, and_then, judged, contents}
use Rattle.tape_records.specs.Lemmas.Gaps.{ended_well}
use Rattle.tape_records.specs.Lemmas.Scanning.{skip}
use Rattle.tape_records.specs.Grammar.{Fit, Fits, Gap, Text, newline, spelled}
use Rattle.tape_records.specs.Lemmas.Whole.{never}
use Rattle.tape_records.specs.Inner.Lawful.{Placed, Lawful}

over_gap : (item : ℕ → List ℕ → Item) (before : ℕ) (g s : List ℕ) → Gap g → contents item 0 before (g ++ s) ≡ contents item 0 before s
over_gap item before [] s h = refl
over_gap item before (c ∷ g) s h = by_case (separator c) h (over_gap item before g s)
  where
    by_case : (b : Bool) → cond b (only_separators g) false ≡ true → (Gap g → contents item 0 before (g ++ s) ≡ contents item 0 before s)
        → cond b (contents item 0 before (g ++ s)) (judged (item before (c ∷ g ++ s)) before (c ∷ g ++ s) (λ passed. contents item passed (before + 1) (g ++ s)))
        ≡ contents item 0 before s
    by_case true e f = f e
    by_case false e f = never (cc)

-- a record stands at the head of a text
at_head : (item : ℕ → List ℕ → Item) (before size : ℕ) (t s : List ℕ) → Placed t (suc size)
    → contents item 0 before (t ++ s) ≡ judged (item before (t ++ s)) before (t ++ s) (λ passed. contents item passed (before + 1) (drop 1 (t ++ s)))
at_head item before size [] s p = absurd (omega (arith, p.long))
at_head item before size (c ∷ t) s p = rw p.starts

behind : (size : ℕ) (t s : List ℕ) → length t ≡ suc size → drop size (drop 1 (t ++ s)) ≡ s
behind size [] s h = absurd (omega arith)
behind size (c ∷ t) s h = drop_at t s size (omega arith)

-- good contents: the data records rs after so many others, and the end record
abbrev pub whole : ℕ → List Stretch → Contents
whole before rs = record { records = rs; answer = not_refused; good = before + length rs + 1; left = 0 }

module _ (item : ℕ → List ℕ → Item) (Data : ℕ → Stretch → List ℕ → Type 0) (End : ℕ → List ℕ → Type 0) (lawful : Lawful item Data End) where
  complete_from : (rs : List Stretch) (before : ℕ) (s : List ℕ) → Text Data End before rs s → contents item 0 before s ≡ whole before rs
  complete_from [] before s t =
      let counts : before + 0 + 1 ≡ before + 1 = omega arith in
      let placed = lawful.end_placed before t.1 t.4 in
      rw t.6
      (over_gap item before t.0 (t.1 ++ t.2) t.3
      ∙ at_head item before 10 t.1 t.2 placed
      ∙ rw (lawful.end_read before t.1 t.2 t.4, drop_at t.1 t.2 11 placed.long, ended_well (before + 1) t.2 t.5, counts))
  complete_from (r ∷ rs) before s t =
      let placed = lawful.data_placed before r t.1 t.4 in
      let one : 11 + 2 * length r.bytes ≡ suc (10 + 2 * length r.bytes) = omega arith in
      let counts : before + 1 + length rs + 1 ≡ before + suc (length rs) + 1 = omega arith in
      let long : length t.1 ≡ suc (10 + 2 * length r.bytes) = omega (arith, placed.long) in
      rw t.6
      (over_gap item before t.0 (t.1 ++ t.2) t.3
      ∙ at_head item before (10 + 2 * length r.bytes) t.1 t.2 (record { starts = placed.starts; long = long })
      ∙ rw (
        lawful.data_read before r t.1 t.2 t.4,
        skip item (10 + 2 * length r.bytes) (before + 1) (drop 1 (t.1 ++ t.2)),
        behind (10 + 2 * length r.bytes) t.1 t.2 long,
      )
      (ap (and_then r) (complete_from rs (before + 1) t.2 t.5) ∙ rw counts))

  pub grammar_is_accepted : (s : List ℕ) (rs : List Stretch) → Text Data End 0 rs s → contents item 0 0 s ≡ whole 0 rs
  grammar_is_accepted s rs t = complete_from rs 0 s t

pub fits_at : (rs : List Stretch) (r : Stretch) (qs : List Stretch) → Fits (rs ++ r ∷ qs) → Fit r
fits_at [] r qs f = f.0
fits_at (q ∷ rs) r qs f = fits_at rs r qs f.1

newline_gap : Gap newline
unfolding separator
newline_gap = refl

-- What is written from records that fit is a text by the grammar.
module _ (dataText : Stretch → List ℕ) (end_text : ℕ → List ℕ) where
  module _
      (Data : ℕ → Stretch → List ℕ → Type 0)
      (End : ℕ → List ℕ → Type 0)
      (is_data : (k : ℕ) (r : Stretch) → Fit r → k < 65535 → Data k r (dataText r))
      (is_end : (k : ℕ) → k < 65536 → End k (end_text k))
    where
      spelled_from : (rs : List Stretch) (before : ℕ) (g : List ℕ) → Gap g → Fits rs → before + length rs < 65536 → Text Data End before rs (g ++ spelled dataText end_text before rs)
      spelled_from [] before g e f h = (g, end_text before, newline, e, is_end before (omega arith), newline_gap, refl)
      spelled_from (r ∷ rs) before g e f h = (
        g,
        dataText r,
        newline ++ spelled dataText end_text (before + 1) rs,
        e,
        is_data before r f.0 (omega arith),
        spelled_from rs (before + 1) newline newline_gap f.1 (omega arith),
        ap (λ (t : List ℕ). g ++ t) (append_assoc (dataText r) newline (spelled dataText end_text (before + 1) rs)),
      )

      pub spelled_by_grammar : (rs : List Stretch) → Fits rs → length rs < 65536 → Text Data End 0 rs (spelled dataText end_text 0 rs)
      spelled_by_grammar rs f h = spelled_from rs 0 [] refl f (omega arith)
