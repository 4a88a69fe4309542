-- If more characters than an entry can have stand after the last LF, that entry is malformed, whatever follows: it need not be read to its end.
use Rattle.std.specs.Prelude.{ℕ, ◌+◌, ◌<◌, ◌≤◌, ◌≡◌, refl, cond, List, [], ◌∷◌, ◌++◌, eqb, length, get_or, take, drop, Option}
use Rattle.std.proofs.Common.{ap, sym, ◌∙◌, append_assoc, append-nil, add-zero, arith, length-append, length-drop, take-append-drop, drop_at, get_or-drop}
use Rattle.std.proofs.Math.ListN.{get_or-append}
use Rattle.laws.specs.Answers.{malformed_entry}
use Rattle.text_reading.specs.Numbers.{nowhere}
use Rattle.manual.specs.declared.Machine.{Machine}
use Rattle.trace_fields.specs.Fields.{machine_fields}
use Rattle.trace_line.specs.Lines.{longest_line}
use Rattle.trace_line.specs.Theorems.Lines as line
use Rattle.trace_checking.specs.Checking.{Part, part_of, checked_part}
use Rattle.trace_checking.specs.Lemmas.Turns.{at_malformed}
use Rattle.trace_checking.specs.Logs.{NoLine}
use Rattle.trace_checking.specs.Inner.Parts.{added}
use Rattle.trace_checking.specs.Theorems.Parts.{joined}
use Rattle.trace_checking.specs.Inner.Cutting.{whole_end}
use Rattle.trace_checking.specs.Theorems.Cutting.{cut_whole, no_feed}

-- the LF of an entry
feed_at : (a w : List ℕ) → get_or ((a ++ 10 ∷ []) ++ w) (length a) 0 ≡ 10
feed_at a w =
    ap (λ (l : List ℕ). get_or l (length a) 0) (append_assoc a (10 ∷ []) w)
    ∙ ap (λ (n : ℕ). get_or (a ++ 10 ∷ w) n 0) (sym (add-zero (length a)))
    ∙ sym (get_or-drop (length a) (a ++ 10 ∷ w) 0 0)
    ∙ ap (λ (l : List ℕ). get_or l 0 0) (drop_at a (10 ∷ w) (length a) refl)

module _ (s : List ℕ) (long : whole_end s + longest_line ≤ length s) where
  abbrev rest : List ℕ
  rest = drop (whole_end s) s

  no_line : (v : List ℕ) → NoLine (rest ++ v)
  no_line v t w h g =
      let i = length (machine_fields t) in
      let size = length-append (machine_fields t) (10 ∷ []) in
      let short = line.line_short t h.cycles in
      let left = length-drop (whole_end s) s in
      let inside : i < length rest = omega arith in
      let feed : get_or s (whole_end s + i) 0 ≡ 10 =
      sym (get_or-drop (whole_end s) s i 0)
      ∙ sym (get_or-append rest v 0 i inside)
      ∙ ap (λ (l : List ℕ). get_or l i 0) g
      ∙ feed_at (machine_fields t) w in
      no_feed s (whole_end s + i) (omega arith) (omega arith) feed

  bad : (last : Option Machine) (m v : List ℕ) → length (rest ++ v) ≤ nowhere → checked_part last m (rest ++ v) ≡ (part_of malformed_entry 0 last, m)
  bad last m v fits =
      at_malformed 0 last m (rest ++ v) (omega (arith, length-append rest v, length-drop (whole_end s) s)) ((line.malformed (rest ++ v) fits).1 (no_line v))

  -- What follows makes no difference.
  pub overlong : (last : Option Machine) (m u : List ℕ) → length (s ++ u) ≤ nowhere → checked_part last m (s ++ u) ≡ checked_part last m s
  overlong last m u fits =
      let lines = take (whole_end s) s in
      let w = checked_part last m lines in
      let parted : lines ++ rest ≡ s = take-append-drop (whole_end s) s in
      let all-of-it = length-append s u in
      let size = length-append rest u in
      let none = length-append rest [] in
      let left = length-drop (whole_end s) s in
      let after : s ++ u ≡ lines ++ (rest ++ u) = ap (λ (l : List ℕ). l ++ u) (sym parted) ∙ append_assoc lines rest u in
      let alone : s ≡ lines ++ (rest ++ []) = sym parted ∙ ap (λ (l : List ℕ). lines ++ l) (sym (append-nil rest)) in
      ap (λ (l : List ℕ). checked_part last m l) after
      ∙ joined last m lines (rest ++ u) (omega (arith, ap length after)) (cut_whole s)
      ∙ ap (λ (p : Part × List ℕ). cond (eqb w.0.answer 0) (added w.0.lines p) w)
      (bad w.0.last w.1 u (omega arith) ∙ sym (bad w.0.last w.1 [] (omega arith)))
      ∙ sym (joined last m lines (rest ++ []) (omega (arith, ap length alone)) (cut_whole s))
      ∙ ap (λ (l : List ℕ). checked_part last m l) (sym alone)
