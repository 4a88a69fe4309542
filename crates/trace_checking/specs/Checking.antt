-- The check of a recorded trace (P10 of docs/RULES.md):
--   0   the trace is accepted; line 0
--   1   the image or the copy is not 65,536 bytes long; line 0
--   11  an entry is malformed or cut short, or there is none
--   12  an entry does not follow from the one before
-- The line is the number of the first bad entry, counted from 1. What this means in the words of the rules is proved in Theorems.
use Rattle.std.specs.Prelude.{ℕ, zero, suc, ◌+◌, ◌-◌, Bool, true, false, cond, List, [], ◌∷◌, eqb, length, Option, Some, None, Result, Ok, Err}
use Rattle.laws.specs.Answers.{not_refused, memory_not_full, malformed_entry, stray_entry, answer_of}
use Rattle.manual.specs.declared.Machine.{Machine}
use Rattle.manual.specs.Stepping.{full_memory}
use Rattle.text_writing.specs.Delivered.{answer_in}
use Rattle.trace_line.specs.declared.Spelled.{Spelled}
use Rattle.trace_line.specs.Fields.{line_of}
use Rattle.trace_step.specs.Following.{followed}
use Rattle.trace_checking.specs.declared.Part.{Part as Shown}
use Rattle.trace_checking.specs.declared.Bad.{Bad}

-- what a part shows, in numbers: the answer, how many entries are accepted, and the last of them
pub record Part : Type 0 where
  pub answer : ℕ
  pub lines : ℕ
  pub last : Option Machine

abbrev pub part_of : ℕ → ℕ → Option Machine → Part
part_of answer lines last = record { answer = answer; lines = lines; last = last }

-- what a whole trace shows: the answer, and the entry that it names
pub record Checked : Type 0 where
  pub answer : ℕ
  pub line : ℕ

abbrev pub checked_of : ℕ → ℕ → Checked
checked_of answer line = record { answer = answer; line = line }

-- the same of what the code answers
abbrev pub part_numbers : Shown → Part
part_numbers p = part_of (answer_in p.refusal) p.lines p.last

abbrev pub checked_numbers : Result Unit Bad → Checked
checked_numbers (Ok u) = checked_of not_refused 0
checked_numbers (Err bad) = checked_of (answer_of bad.refusal) bad.line

-- whether a state may stand in the next entry, and the memory then: the first one may be any, and a later one is that after a step
abbrev pub accepted : Option Machine → Machine → List ℕ → Bool × List ℕ
accepted None next m = (true, m)
accepted (Some s) next m = followed s next m

-- `more` goes on with the memory after an accepted entry
abbrev pub if_accepted : ℕ → Option Machine → (List ℕ → Part × List ℕ) → Bool × List ℕ → Part × List ℕ
if_accepted lines last more (true, m) = more m
if_accepted lines last more (false, m) = (part_of stray_entry lines last, m)

-- the next entry: `more` goes on after so many characters, with its state
abbrev pub judged : ℕ → Option Machine → List ℕ → (ℕ → Machine → List ℕ → Part × List ℕ) → Option Spelled → Part × List ℕ
judged lines last m more None = (part_of malformed_entry lines last, m)
judged lines last m more (Some q) = if_accepted lines last (more q.next q.machine) (accepted last q.machine m)

-- the entries from here on, after `lines` accepted ones, of which the first `passed` characters belong to the last one
unfoldable pub later : ℕ → ℕ → Option Machine → List ℕ → List ℕ → Part × List ℕ
later passed lines last m [] = (part_of not_refused lines last, m)
later (suc passed) lines last m (c ∷ text) = later passed lines last m text
later zero lines last m (c ∷ text) =
    judged lines last m (λ size t m'. later (size - 1) (lines + 1) (Some t) m' text) (line_of (c ∷ text))

-- a part of a trace, which begins with an entry, on the memory that the entries before it leave
abbrev pub checked_part : Option Machine → List ℕ → List ℕ → Part × List ℕ
checked_part last m text = later 0 0 last m text

-- the whole: if no entry is accepted and none is bad, there is none
abbrev pub closed : ℕ → ℕ → Checked
closed answer lines = cond (eqb answer not_refused) (cond (eqb lines 0) (checked_of malformed_entry 1) (checked_of not_refused 0)) (checked_of answer (lines + 1))

abbrev pub closing : Part × List ℕ → Checked × List ℕ
closing w = (closed w.0.answer w.0.lines, w.1)

-- the check of a whole trace: the copy starts as the image
unfoldable pub checked_trace : List ℕ → List ℕ → List ℕ → Checked × List ℕ
checked_trace image text copy =
    cond (eqb (length image) full_memory)
    (cond (eqb (length copy) full_memory) (closing (checked_part None image text)) (checked_of memory_not_full 0, copy))
    (checked_of memory_not_full 0, copy)
