-- A line with a name after it, if several images are named.
use Rattle.std.specs.Prelude.{ℕ, ◌+◌, ◌≤◌, List, ◌++◌, length}
use Rattle.laws.specs.Characters.{characters}
use Rattle.text_writing.specs.Written.{Wrote}
use Rattle.sentences.specs.Line.{longest_line}
use Rattle.console.specs.Names.{printed_name}

-- what stands in place of the line's end: two spaces, the name and the end
abbrev pub after_line : List ℕ → List ℕ
after_line name = characters "  " ++ printed_name name ++ characters "\n"

-- it was written for some name, of as many characters as a name may have
abbrev pub WroteAfter : List ℕ → ℕ → List ℕ → ℕ → Type 0
WroteAfter l at l' next = (name : List ℕ) × Wrote l at (after_line name) l' next × (length name ≤ 4096)

-- the most characters that a line has with a name after it
abbrev pub longest_named : ℕ
longest_named = longest_line + 4098
