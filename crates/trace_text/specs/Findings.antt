-- What is said of a trace that was checked.
use Rattle.std.specs.Prelude.{ℕ, cond, List, [], ◌∷◌, ◌++◌, eqb}
use Rattle.laws.specs.Answers.{not_refused, stray_entry}
use Rattle.laws.specs.Characters.{characters}
use Rattle.text_writing.specs.Numerals.{decimal, spaced}

abbrev pub accepted_lines : ℕ → List ℕ
accepted_lines lines = characters "accepted: every line follows, lines: " ++ decimal lines ++ characters "\n"

abbrev pub bad_line : ℕ → List ℕ → List ℕ
bad_line line why = characters "refused: line " ++ decimal line ++ why

-- by the answer: the number is that of the entries, or of the bad one
unfoldable pub finding : ℕ → ℕ → List ℕ
finding answer number =
    cond (eqb answer not_refused) (accepted_lines number)
    (cond (eqb answer stray_entry) (bad_line number (characters " is not the state after a step from the line before\n"))
    (bad_line number (characters " is malformed, cut short or missing\n")))

-- the most characters that it has
abbrev pub longest_finding : ℕ
longest_finding = 90

-- the entry that would have been right, which has its LF, or LF alone
abbrev pub right_or : List ℕ → List ℕ
right_or [] = characters "\n"
right_or (c ∷ right) = spaced (c ∷ right)

-- the answer, the entry that it names, and what would have been right
abbrev pub verdict_line : ℕ → ℕ → List ℕ → List ℕ
verdict_line answer line right = decimal answer ++ spaced (decimal line) ++ right_or right
