-- Two parts of a trace, checked one after the other, are checked as they are as one.
use Rattle.std.specs.Prelude.{ℕ, zero, suc, ◌+◌, ◌-◌, ◌<◌, ◌≤◌, ◌≡◌, refl, ◌⊎◌, Bool, true, false, cond, List, [], ◌∷◌, ◌++◌, eqb, length, drop, Option, Some, None}
use Rattle.std.proofs.Common.{ap, sym, ◌∙◌, inl, inr, append_assoc, arith, length-append}
use Rattle.manual.specs.declared.Machine.{Machine}
use Rattle.text_reading.specs.Numbers.{nowhere}
use Rattle.trace_line.specs.declared.Spelled.{Spelled}
use Rattle.trace_line.specs.Fields.{line_of}
use Rattle.trace_line.specs.Lines.{line_text}
use Rattle.trace_line.specs.Theorems.Lines as line
use Rattle.trace_line.specs.Lemmas.LineFeeds.{stays_malformed}
use Rattle.trace_checking.specs.Checking.{Part, accepted, if_accepted, judged, later, checked_part}
use Rattle.trace_checking.specs.Lemmas.Turns.{at_malformed}
use Rattle.trace_checking.specs.Logs.{log_text, Accepted, PartVerdict, all, malformed, astray}
use Rattle.trace_checking.specs.Lemmas.Accepting.{over, astray_line, part_verdict}
use Rattle.trace_checking.specs.Inner.Parts.{added}

-- if all entries of a part are accepted, what follows it is checked from the state and on the memory that it leaves; otherwise its answer stands
abbrev pub goes_on : Part × List ℕ → List ℕ → Part × List ℕ
goes_on w u = cond (eqb w.0.answer 0) (added w.0.lines (checked_part w.0.last w.1 u)) w

-- whole entries: nothing, or a text that ends with LF
abbrev pub Whole : List ℕ → Type 0
Whole part = (part ≡ []) ⊎ ((front : List ℕ) × (part ≡ front ++ 10 ∷ []))

-- ---- the count

count_state : (j k : ℕ) (last : Option Machine) (w : Bool × List ℕ) (more less : List ℕ → Part × List ℕ) → ((m : List ℕ) → more m ≡ added j (less m))
    → if_accepted (j + k) last more w ≡ added j (if_accepted k last less w)
count_state j k last (true, m) more less h = h m
count_state j k last (false, m) more less h = refl

count_line : (j k : ℕ) (last : Option Machine) (m : List ℕ) (r : Option Spelled) (more less : ℕ → Machine → List ℕ → Part × List ℕ)
    → ((size : ℕ) (t : Machine) (e : List ℕ) → more size t e ≡ added j (less size t e))
    → judged (j + k) last m more r ≡ added j (judged k last m less r)
count_line j k last m None more less h = refl
count_line j k last m (Some q) more less h =
    count_state j k last (accepted last q.machine m) (more q.next q.machine) (less q.next q.machine) (h q.next q.machine)

counts_on : (text : List ℕ) (passed j k : ℕ) (last : Option Machine) (m : List ℕ) → later passed (j + k) last m text ≡ added j (later passed k last m text)
unfolding later
counts_on [] passed j k last m = refl
counts_on (c ∷ text) (suc passed) j k last m = counts_on text passed j k last m
counts_on (c ∷ text) zero j k last m =
    count_line j k last m (line_of (c ∷ text)) _ _
    (λ size t e. let one : j + k + 1 ≡ j + (k + 1) = omega arith in rw one (counts_on text (size - 1) j (k + 1) (Some t) e))

-- ---- the end of a part

-- what is left of a text that ends with LF ends with it too
left_ends : (a rest front : List ℕ) → 0 < length rest → a ++ rest ≡ front ++ 10 ∷ [] → (f : List ℕ) × (rest ≡ f ++ 10 ∷ [])
left_ends [] rest front some e = (front, e)
left_ends (x ∷ a) rest [] some e = absurd (omega (arith, ap length e, length-append a rest))
left_ends (x ∷ a) rest (y ∷ front) some e = left_ends a rest front some (ap (λ (l : List ℕ). drop 1 l) e)

whole_rest : (part : List ℕ) (l : List Machine) (rest : List ℕ) → Whole part → part ≡ log_text l ++ rest → 0 < length rest → (f : List ℕ) × (rest ≡ f ++ 10 ∷ [])
whole_rest part l rest (inl e) g some = absurd (omega (arith, ap length (sym g ∙ e), length-append (log_text l) rest))
whole_rest part l rest (inr w) g some = left_ends (log_text l) rest w.0 some (sym g ∙ w.1)

-- ---- two parts

module _ (last : Option Machine) (m part u : List ℕ) (fits : length (part ++ u) ≤ nowhere) (whole : Whole part) where
  -- the entries accepted in the part are accepted in the two
  longer : {l : List Machine} {last' : Option Machine} {m' rest : List ℕ} → Accepted last m part l last' m' rest → Accepted last m (part ++ u) l last' m' (rest ++ u)
  longer {l} {last'} {m'} {rest} a = record {
    spellable = a.spellable;
    follow = a.follow;
    text_is = ap (λ (t : List ℕ). t ++ u) a.text_is ∙ append_assoc (log_text l) rest u;
  }

  by_verdict : (w : Part × List ℕ) → PartVerdict 0 last m part w → later 0 0 last m (part ++ u) ≡ goes_on w u
  by_verdict w (all l last' m' a q) =
      let none : 0 + length l + 0 ≡ 0 + length l = omega arith in
      over 0 last m (part ++ u) (longer a)
      ∙ ap (λ (k : ℕ). later 0 k last' m' u) (sym none)
      ∙ counts_on u 0 (0 + length l) 0 last' m'
      ∙ ap (λ (v : Part × List ℕ). goes_on v u) (sym q)
  by_verdict w (malformed l last' m' rest a some never q) =
      let ends = whole_rest part l rest whole a.text_is some in
      let size = length-append rest u in
      let all-of-it = length-append part u in
      let parted = length-append (log_text l) rest in
      let short : length (rest ++ u) ≤ nowhere = omega (arith, size, all-of-it, parted, ap length a.text_is) in
      over 0 last m (part ++ u) (longer a)
      ∙ at_malformed (0 + length l) last' m' (rest ++ u) (omega (arith, size)) ((line.malformed (rest ++ u) short).1 (stays_malformed rest ends.0 u ends.1 never))
      ∙ ap (λ (v : Part × List ℕ). goes_on v u) (sym q)
  by_verdict w (astray l last' m' t rest a spelled never q) =
      over 0 last m (part ++ u) (longer a)
      ∙ ap (λ (v : List ℕ). later 0 (0 + length l) last' m' v) (append_assoc (line_text t) rest u)
      ∙ astray_line (0 + length l) last' m' t (rest ++ u) spelled never
      ∙ ap (λ (v : Part × List ℕ). goes_on v u) (sym q)

  -- Whole entries and then the rest are checked as all of it as one: the same answer, the counts added, the same last state and memory.
  pub joined : checked_part last m (part ++ u) ≡ goes_on (checked_part last m part) u
  joined = by_verdict (checked_part last m part) (part_verdict 0 last m part (omega (arith, length-append part u)))
