-- The line of a run's answer (docs/RULES.md).
use Rattle.std.specs.Prelude.{ℕ, cond, List, ◌++◌, eqb}
use Rattle.laws.specs.Answers.{memory_not_full}
use Rattle.manual.specs.declared.Ended.{Ended}
use Rattle.manual.specs.Outcomes.{number}
use Rattle.laws.specs.Characters.{characters}
use Rattle.text_writing.specs.Numerals.{decimal, spaced}
use Rattle.trace_fields.specs.Fields.{machine_fields}

-- the reason, the number of steps, and the machine
unfoldable pub all_fields : Ended → List ℕ
all_fields q =
    decimal (number q.reason) ++ spaced (decimal q.steps) ++ spaced (machine_fields q.machine) ++ characters "\n"

unfoldable pub line : Ended → List ℕ
line q = cond (eqb (number q.reason) memory_not_full) (characters "1\n") (all_fields q)

-- the most characters that it has
abbrev pub longest_line : ℕ
longest_line = 64
