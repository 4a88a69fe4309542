-- The same of what the program holds.
use Rattle.std.specs.Prelude.{◌≡◌, ℕ, ◌+◌, ◌≤◌, Bool, true, ◌⊎◌, List, [], ◌++◌, length, Option, None}
use Rattle.text_reading.specs.Numbers.{nowhere}
use Rattle.manual.specs.declared.Machine.{Machine}
use Rattle.trace_checking.specs.Checking.{Part, part_of, checked_part}
use Rattle.text_writing.specs.Delivered.{answer_in}
use Rattle.program_check.specs.declared.log.Found.{Found}
use Rattle.program_check.specs.declared.log.Turn.{Turn}
use Rattle.program_check.specs.Inner.Ahead.{Ahead, After, Settled}

abbrev pub part_in : Found → Part
part_in f = part_of (answer_in f.refusal) f.lines f.last

abbrev pub added : ℕ → Part → Part
added lines p = part_of p.answer (lines + p.lines) p.last

-- whatever was read before, if what is found and kept is right for it, so it is after n was read too
abbrev pub Goes : ℕ → Option Machine → List ℕ → List ℕ → List ℕ → Bool → Turn → List ℕ → List ℕ → Type 0
Goes lines last k m n ended r k' m' =
    (image t : List ℕ) → Ahead image t lines last m k → length (t ++ n) ≤ nowhere → After r.more ended image (t ++ n) (part_in r.found) m' k'

-- some more was read; if the log has ended, nothing
abbrev pub More : ℕ → Option Machine → List ℕ → List ℕ → Turn → List ℕ → List ℕ → Type 0
More lines last k m r k' m' = (n : List ℕ) × (ended : Bool) × Goes lines last k m n ended r k' m' × (ended ≡ true → n ≡ [])

-- some text was read, and this is its check: whatever follows, or if nothing does
abbrev pub Ends : List ℕ → Found → List ℕ → Type 0
Ends image f m = (t : List ℕ) × (length t ≤ nowhere → Settled image t (part_in f, m) ⊎ (checked_part None image t ≡ (part_in f, m)))
