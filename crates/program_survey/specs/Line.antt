-- The line of a survey, decimal fields one space apart: what the reader found, and what a rescue would keep and drop.
use Rattle.std.specs.Prelude.{ℕ, List, ◌++◌}
use Rattle.laws.specs.Characters.{characters}
use Rattle.text_writing.specs.Numerals.{decimal, spaced}
use Rattle.tape_loading.specs.Answers.{Verdict}
use Rattle.tape_rescuing.specs.Rescuing.{Report}

abbrev pub read_fields : Verdict → List ℕ
read_fields v = decimal v.answer ++ spaced (decimal v.good) ++ spaced (decimal v.place)

abbrev pub rescue_fields : Report → List ℕ
rescue_fields r =
    spaced (decimal r.answer) ++ spaced (decimal r.kept) ++ spaced (decimal r.dropped) ++ spaced (decimal r.first)

unfoldable pub line : Verdict → Report → List ℕ
line v r = read_fields v ++ rescue_fields r ++ characters "\n"

-- the most characters that it has
abbrev pub longest_line : ℕ
longest_line = 113
