-- A line, as the code answers it.
use Rattle.std.specs.Prelude.{ℕ, ◌≡◌, List, Option, Some, None}
use Rattle.text_reading.specs.Numbers.{nowhere}
use Rattle.program_replay.specs.declared.line.Line.{Line}
use Rattle.program_replay.specs.Verdicts.{Lined}

-- the line, and the two memories that are left; of a line that ends nowhere nothing is said of these
abbrev pub Reads : Lined → Option Line → List ℕ → List ℕ → Type 0
Reads l None m e = l.next ≡ nowhere
Reads l (Some line) m e = (l.next ≡ nowhere → ⊥) × (l.line ≡ line) × (l.memory ≡ m) × (l.expected ≡ e)
