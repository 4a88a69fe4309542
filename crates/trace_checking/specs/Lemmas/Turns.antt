-- One entry of a trace, for the loop of the code and for the theorems.
use Rattle.std.specs.Prelude.{ℕ, zero, suc, ◌+◌, ◌-◌, ◌<◌, ◌≤◌, ◌≡◌, refl, Bool, true, false, List, [], ◌∷◌, length, drop, Option, Some, None}
use Rattle.std.proofs.Common.{ap, sym, ◌∙◌, arith, length-drop, drop_of_length-le, drop-drop}
use borrow.Author.Tests.{eq-eqb, ne_eqb}
use Rattle.laws.specs.Answers.{not_refused, memory_not_full, malformed_entry, stray_entry}
use Rattle.manual.specs.declared.Machine.{Machine}
use Rattle.manual.specs.Stepping.{full_memory}
use Rattle.text_reading.specs.Numbers.{nowhere}
use Rattle.trace_line.specs.declared.Spelled.{Spelled}
use Rattle.trace_line.specs.Fields.{line_of, line_from}
use Rattle.trace_line.specs.Theorems.Lines.{line_length, read_written}
use Rattle.trace_checking.specs.Checking.{Part, part_of, checked_of, accepted, if_accepted, judged, later, checked_part, closed, closing, checked_trace}

-- what is passed over
skip : (passed k : ℕ) (last : Option Machine) (m text : List ℕ) → later passed k last m text ≡ later 0 k last m (drop passed text)
unfolding later
skip zero k last m text = refl
skip (suc passed) k last m [] = refl
skip (suc passed) k last m (c ∷ text) = skip passed k last m text

-- an entry of at least one character
skip_line : (size k j : ℕ) (last : Option Machine) (t : Machine) (c : ℕ) (text : List ℕ) → 0 < size → (w : Bool × List ℕ)
    → if_accepted k last (λ m. later (size - 1) j (Some t) m text) w ≡ if_accepted k last (λ m. later 0 j (Some t) m (drop size (c ∷ text))) w
skip_line zero k j last t c text some w = absurd (omega arith)
skip_line (suc size) k j last t c text some (true, m) = let one : suc size - 1 ≡ size = omega arith in rw one (skip size j (Some t) m text)
skip_line (suc size) k j last t c text some (false, m) = refl

pub at_malformed : (k : ℕ) (last : Option Machine) (m text : List ℕ) → 0 < length text → line_of text ≡ None → later 0 k last m text ≡ (part_of malformed_entry k last, m)
unfolding later
at_malformed k last m [] some e = absurd (omega arith)
at_malformed k last m (c ∷ text) some e = rw e

pub at_state : (k : ℕ) (last : Option Machine) (m text : List ℕ) (q : Spelled) → 0 < length text → line_of text ≡ Some q → 0 < q.next
    → later 0 k last m text ≡ if_accepted k last (λ m'. later 0 (k + 1) (Some q.machine) m' (drop q.next text)) (accepted last q.machine m)
unfolding later
at_state k last m [] q some e size = absurd (omega arith)
at_state k last m (c ∷ text) q some e size =
    ap (judged k last m (λ n t m'. later (n - 1) (k + 1) (Some t) m' text)) e
    ∙ skip_line q.next k (k + 1) last q.machine c text size (accepted last q.machine m)

-- ---- for the loop

pub turn_end : (text : List ℕ) (at k : ℕ) (last : Option Machine) (m : List ℕ) → length text ≤ at → later 0 k last m (drop at text) ≡ (part_of not_refused k last, m)
unfolding later
turn_end text at k last m h = rw (drop_of_length-le text {i = at} h)

-- the entry that was read is the one of the rest of the text
from_malformed : (at : ℕ) (l : Option Spelled) → line_from at l ≡ None → l ≡ None
from_malformed at None e = refl
from_malformed at (Some q) e = let z : ◌≡◌ {A = ℕ} 0 1 = cc in absurd (omega arith)

abbrev Shifted : ℕ → Option Spelled → Spelled → Type 0
Shifted at l p = (q : Spelled) × (l ≡ Some q) × (q.machine ≡ p.machine) × (at + q.next ≡ p.next)

same_spelled : (p q : Spelled) → Some p ≡ Some q → p ≡ q
same_spelled p q e = cc

from_state : (at : ℕ) (l : Option Spelled) (p : Spelled) → line_from at l ≡ Some p → Shifted at l p
from_state at None p e = let z : ◌≡◌ {A = ℕ} 0 1 = cc in absurd (omega arith)
from_state at (Some q) p e =
    let same = same_spelled (record { machine = q.machine; next = at + q.next }) p e in
    (q, refl, ap (λ (r : Spelled). r.machine) same, ap (λ (r : Spelled). r.next) same)

module _ (text : List ℕ) (at : ℕ) (fits : length text ≤ nowhere) (inside : at < length text) {r : Option Spelled} (e : r ≡ line_from at (line_of (drop at text))) where
  some_left : 0 < length (drop at text)
  some_left = omega (arith, length-drop at text)

  -- an entry has at least 21 characters
  pub long_line : (p : Spelled) → r ≡ Some p → at + 21 ≤ p.next
  long_line p g =
      let q = from_state at (line_of (drop at text)) p (sym e ∙ g) in
      omega (arith, q.3, (read_written (drop at text) (omega (arith, length-drop at text)) q.0 q.1).size, line_length q.0.machine)

  -- and ends inside the text
  pub inside_line : (p : Spelled) → r ≡ Some p → p.next ≤ length text
  inside_line p g =
      let q = from_state at (line_of (drop at text)) p (sym e ∙ g) in
      let left = length-drop at text in
      omega (arith, q.3, (read_written (drop at text) (omega (arith, left)) q.0 q.1).inside)

  module _ (k : ℕ) (last : Option Machine) (m : List ℕ) where
    pub turn_malformed : r ≡ None → later 0 k last m (drop at text) ≡ (part_of malformed_entry k last, m)
    turn_malformed g = at_malformed k last m (drop at text) some_left (from_malformed at (line_of (drop at text)) (sym e ∙ g))

    turn_state : (p : Spelled) → r ≡ Some p
        → later 0 k last m (drop at text)
        ≡ if_accepted k last (λ m'. later 0 (k + 1) (Some p.machine) m' (drop p.next text)) (accepted last p.machine m)
    turn_state p g =
        let q = from_state at (line_of (drop at text)) p (sym e ∙ g) in
        at_state k last m (drop at text) q.0 some_left q.1 (omega (arith, long_line p g, q.3))
        ∙ rw (q.2, drop-drop q.0.next at text, q.3)

    module _ (p : Spelled) (g : r ≡ Some p) {b : Bool} {m' : List ℕ} (f : (b, m') ≡ accepted last p.machine m) where
      pub turn_accepted : b ≡ true → later 0 k last m (drop at text) ≡ later 0 (k + 1) (Some p.machine) m' (drop p.next text)
      turn_accepted h = turn_state p g ∙ rw (← f, h)

      pub turn_astray : b ≡ false → later 0 k last m (drop at text) ≡ (part_of stray_entry k last, m')
      turn_astray h = turn_state p g ∙ rw (← f, h)

-- an answer, with the memory left
pub told : {A : Type 0} {p q : A} {m : List ℕ} {w : A × List ℕ} → p ≡ q → w ≡ (q, m) → (p, m) ≡ w
told {m = m} e g = ap (λ r. (r, m)) e ∙ sym g

-- ---- the lengths

module _ (image text copy : List ℕ) where
  pub short_image : (length image ≡ full_memory → ⊥) → checked_trace image text copy ≡ (checked_of memory_not_full 0, copy)
  unfolding checked_trace
  short_image h = rw (ne_eqb (length image) full_memory h)

  pub short_copy : length image ≡ full_memory → (length copy ≡ full_memory → ⊥) → checked_trace image text copy ≡ (checked_of memory_not_full 0, copy)
  unfolding checked_trace
  short_copy f h = rw (eq-eqb (length image) full_memory f, ne_eqb (length copy) full_memory h)

  pub both_full : length image ≡ full_memory → length copy ≡ full_memory → checked_trace image text copy ≡ closing (checked_part None image text)
  unfolding checked_trace
  both_full f g = rw (eq-eqb (length image) full_memory f, eq-eqb (length copy) full_memory g)

  pub all_checked : {p : Part} {m start : List ℕ} → length image ≡ full_memory → length copy ≡ full_memory → start ≡ image
      → (p, m) ≡ checked_part None start text
      → checked_trace image text copy ≡ (closed p.answer p.lines, m)
  all_checked f g e h = both_full f g ∙ ap closing (sym (h ∙ ap (λ (l : List ℕ). checked_part None l text) e))
