-- A log that is read part by part: what is known of all that was read, and of all that may follow, after each part.
use Rattle.std.specs.Prelude.{◌≡◌, ℕ, ◌+◌, ◌-◌, ◌≤◌, Bool, true, false, cond, List, ◌++◌, length, ◌==◌, nat_lt, Option, None}
use Rattle.laws.specs.Answers.{not_refused}
use Rattle.text_reading.specs.Numbers.{nowhere}
use Rattle.manual.specs.declared.Machine.{Machine}
use Rattle.trace_checking.specs.Checking.{Part, checked_part}
use Rattle.trace_checking.specs.Inner.Parts.{added}

-- t was read, and k of it is kept: whatever follows, the check of all is what was counted and the check of the rest from here
pub record Ahead (image t : List ℕ) (lines : ℕ) (last : Option Machine) (m k : List ℕ) : Type 0 where
  pub few : lines + length k ≤ length t
  pub goes : (u : List ℕ) → length (t ++ u) ≤ nowhere → checked_part None image (t ++ u) ≡ added lines (checked_part last m (k ++ u))

-- whatever follows, this is the check of all
abbrev pub Settled : List ℕ → List ℕ → Part × List ℕ → Type 0
Settled image t w = (u : List ℕ) → length (t ++ u) ≤ nowhere → checked_part None image (t ++ u) ≡ w

-- the most characters after the last LF that are held back for the next part: no entry has as many
abbrev pub most_held : ℕ
most_held = 64

-- the place where a part ends, and whether another one is read
abbrev pub part_end : Bool → ℕ → ℕ → ℕ
part_end ended size whole = cond ended size (cond (nat_lt most_held (size - whole)) size whole)

abbrev pub another : Bool → ℕ → ℕ → ℕ → Bool
another ended size whole answer = cond ended false (cond (nat_lt most_held (size - whole)) false (answer == not_refused))

-- what is known then: of all that may follow, or if nothing follows of what was read
abbrev pub After : Bool → Bool → List ℕ → List ℕ → Part → List ℕ → List ℕ → Type 0
After true ended image t p m k = Ahead image t p.lines p.last m k
After false true image t p m k = checked_part None image t ≡ (p, m)
After false false image t p m k = Settled image t (p, m)
