-- The entry of a step that was made, by what is shown of a run: a trace has the states (P10), a timetable the steps, for the lesson on timing (P8).
use Rattle.std.specs.Prelude.{ℕ, ◌+◌, List, ◌++◌}
use Rattle.manual.specs.declared.Machine.{Machine}
use Rattle.laws.specs.Characters.{characters}
use Rattle.text_writing.specs.Numerals.{hex4, decimal, spaced}
use Rattle.trace_line.specs.Lines.{line_text, longest_line}
use Rattle.listing.specs.Lines.{longest_instruction}
use Rattle.trace_text.specs.declared.View.{View}
use Rattle.trace_text.specs.declared.View.TheVariants.{States, Steps}

-- the instruction as the listing has it, the cycles that the step took, and the address that it put out first, one space apart
abbrev pub step_line : List ℕ → ℕ → ℕ → List ℕ
step_line instruction cycles first = instruction ++ spaced (decimal cycles) ++ spaced (hex4 first) ++ characters "\n"

-- of these three, and the machine that the step left: the line of a state is that of the one after the step
abbrev pub entry_text : View → List ℕ → ℕ → ℕ → Machine → List ℕ
entry_text States instruction cycles first s = line_text s
entry_text Steps instruction cycles first s = step_line instruction cycles first

-- the most characters that an entry can have
abbrev pub longest : View → ℕ
longest States = longest_line
longest Steps = longest_instruction + 27
