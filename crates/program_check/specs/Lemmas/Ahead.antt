-- Laws of Ahead.antt.
use Rattle.std.specs.Prelude.{◌≡◌, ℕ, ◌+◌, ◌-◌, ◌≤◌, Bool, true, false, cond, List, [], ◌++◌, length, take, drop, ◌==◌, ◌≢◌, nat_lt, refl, Option, None}
use Rattle.std.proofs.Common.{ap, sym, ◌∙◌, append_assoc, append-nil, add_assoc, zero-add, arith, length-append, take-append-drop, eq-eqb, ne_eqb, eqb-true, ltb-true}
use Rattle.std.proofs.Math.Seq.{take-length}
use Rattle.std.proofs.lemmas.Bool.{eqb-false}
use Rattle.laws.specs.Answers.{not_refused}
use Rattle.text_reading.specs.Numbers.{nowhere}
use Rattle.manual.specs.declared.Machine.{Machine}
use Rattle.trace_checking.specs.Checking.{Part, checked_part}
use Rattle.trace_checking.specs.Inner.Parts.{added}
use Rattle.trace_checking.specs.Theorems.Parts.{goes_on, joined}
use Rattle.trace_checking.specs.Inner.Cutting.{whole_end}
use Rattle.trace_checking.specs.Theorems.Cutting.{cut_whole}
use Rattle.trace_checking.specs.Theorems.Overlong.{overlong}
use Rattle.trace_line.specs.Lines.{longest_line}
use Rattle.program_check.specs.Inner.Ahead.{Ahead, Settled, most_held, part_end, another, After}

-- before the first part
pub begun : (image : List ℕ) → Ahead image [] 0 None image []
begun image = record {
  few = omega arith;
  goes = λ u f. rw (zero-add (checked_part None image u).0.lines);
}

added_added : (j k : ℕ) (w : Part × List ℕ) → added j (added k w) ≡ added (j + k) w
added_added j k w = rw (add_assoc j k w.0.lines)

module _ (image t : List ℕ) (lines : ℕ) (last : Option Machine) (m k : List ℕ) (a : Ahead image t lines last m k) (n : List ℕ) where
  abbrev s : List ℕ
  s = k ++ n

  abbrev whole : List ℕ
  whole = take (whole_end s) s

  abbrev rest : List ℕ
  rest = drop (whole_end s) s

  parted : whole ++ rest ≡ s
  parted = take-append-drop (whole_end s) s

  -- the next characters are read
  all : (u : List ℕ) → length ((t ++ n) ++ u) ≤ nowhere → checked_part None image ((t ++ n) ++ u) ≡ added lines (checked_part last m (s ++ u))
  all u f =
      ap (λ (l : List ℕ). checked_part None image l) (append_assoc t n u)
      ∙ a.goes (n ++ u) (omega (arith, f, ap length (append_assoc t n u)))
      ∙ ap (λ (l : List ℕ). added lines (checked_part last m l)) (sym (append_assoc k n u))

  fits : (u : List ℕ) → length ((t ++ n) ++ u) ≤ nowhere → length (s ++ u) ≤ nowhere
  fits u f =
      omega (arith, f, a.few, length-append (t ++ n) u, length-append t n, length-append s u, length-append k n)

  -- whole entries are checked first
  cut : (u : List ℕ) → length ((t ++ n) ++ u) ≤ nowhere → checked_part last m (s ++ u) ≡ goes_on (checked_part last m whole) (rest ++ u)
  cut u f =
      let after : s ++ u ≡ whole ++ (rest ++ u) = ap (λ (l : List ℕ). l ++ u) (sym parted) ∙ append_assoc whole rest u in
      ap (λ (l : List ℕ). checked_part last m l) after
      ∙ joined last m whole (rest ++ u) (omega (arith, fits u f, ap length after)) (cut_whole s)

  module _ {p : Part} {m' : List ℕ} where
    -- they were accepted: the rest is kept
    pub went_on : (p, m') ≡ checked_part last m whole → p.answer ≡ not_refused → p.lines ≤ length whole → Ahead image (t ++ n) (lines + p.lines) p.last m' rest
    went_on e z few = record {
      few = omega (arith, few, a.few, ap length parted, length-append whole rest, length-append t n, length-append k n);
      goes = λ u f.
          all u f
          ∙ ap (added lines) (cut u f ∙ ap (λ (w : Part × List ℕ). goes_on w (rest ++ u)) (sym e) ∙ rw (eq-eqb p.answer not_refused z))
          ∙ added_added lines p.lines (checked_part p.last m' (rest ++ u));
    }

    -- one of them was not
    pub stopped : (p, m') ≡ checked_part last m whole → (p.answer ≢ not_refused) → Settled image (t ++ n) (added lines (p, m'))
    stopped e z u f =
        all u f
        ∙ ap (added lines) (cut u f ∙ ap (λ (w : Part × List ℕ). goes_on w (rest ++ u)) (sym e) ∙ rw (ne_eqb p.answer not_refused z))

    -- the last entry is too long
    pub overran : whole_end s + longest_line ≤ length s → (p, m') ≡ checked_part last m s → Settled image (t ++ n) (added lines (p, m'))
    overran long e u f = all u f ∙ ap (added lines) (overlong s long last m u (fits u f) ∙ sym e)

    -- nothing follows
    pub all_read : (p, m') ≡ checked_part last m s → length (t ++ n) ≤ nowhere → checked_part None image (t ++ n) ≡ added lines (p, m')
    all_read e f =
        ap (λ (l : List ℕ). checked_part None image l) (sym (append-nil (t ++ n)))
        ∙ all [] (omega (arith, f, ap length (append-nil (t ++ n))))
        ∙ ap (λ (l : List ℕ). added lines (checked_part last m l)) (append-nil s)
        ∙ ap (added lines) (sym e)

    -- by the two tests and the answer
    by_tests : (ended long bad : Bool) → nat_lt most_held (length s - whole_end s) ≡ long → (p.answer == not_refused) ≡ bad
        → length (t ++ n) ≤ nowhere
        → (p, m') ≡ checked_part last m (take (cond ended (length s) (cond long (length s) (whole_end s))) s)
        → p.lines ≤ length (take (cond ended (length s) (cond long (length s) (whole_end s))) s)
        → After (cond ended false (cond long false bad)) ended image (t ++ n) (added lines (p, m')).0 m' (drop (cond ended (length s) (cond long (length s) (whole_end s))) s)
    by_tests true long bad l b f e few = all_read (e ∙ ap (λ (v : List ℕ). checked_part last m v) (take-length s)) f
    by_tests false true bad l b f e few = overran (omega (arith, ltb-true most_held (length s - whole_end s) l)) (e ∙ ap (λ (v : List ℕ). checked_part last m v) (take-length s))
    by_tests false false true l b f e few = went_on e (eqb-true p.answer not_refused b) few
    by_tests false false false l b f e few = stopped e (eqb-false p.answer not_refused b)

    -- A part is read and checked.
    pub turn : (ended : Bool) → length (t ++ n) ≤ nowhere → (p, m') ≡ checked_part last m (take (part_end ended (length s) (whole_end s)) s)
        → p.lines ≤ length (take (part_end ended (length s) (whole_end s)) s)
        → After (another ended (length s) (whole_end s) p.answer) ended image (t ++ n) (added lines (p, m')).0 m' (drop (part_end ended (length s) (whole_end s)) s)
    turn ended = by_tests ended (nat_lt most_held (length s - whole_end s)) (p.answer == not_refused) refl refl
