-- What a reader answers.
use Rattle.std.specs.Prelude.{ℕ, ◌-◌, List, length, Result, Ok, Err}
use Rattle.laws.specs.Answers.{not_refused, answer_of}
use Rattle.tape_records.specs.Contents.{Contents, Loaded}
use Rattle.tape_loading.specs.declared.Reach.{Reach}
use Rattle.tape_loading.specs.declared.Fault.{Fault}

-- the answer, how many good records stand before the first bad one, and where that begins, the text's length if there is none
pub record Verdict : Type 0 where
  pub answer : ℕ
  pub good : ℕ
  pub place : ℕ

-- what is found of a text with such contents
abbrev pub verdict_of : List ℕ → Contents → Verdict
verdict_of s c = record { answer = c.answer; good = c.good; place = length s - c.left }

-- the answer's number, and how far a text is good, of what the code answers
abbrev pub number_and_reach : Result Reach Fault → ℕ × Reach
number_and_reach (Ok reach) = (not_refused, reach)
number_and_reach (Err fault) = (answer_of fault.reason, fault.reach)

-- the same as one verdict
abbrev pub verdict_in : Result Reach Fault → Verdict
verdict_in v = record { answer = (number_and_reach v).0; good = (number_and_reach v).1.good; place = (number_and_reach v).1.place }

-- and with the memory that it leaves
abbrev pub loaded : Verdict → List ℕ → Loaded
loaded v m = record { answer = v.answer; good = v.good; place = v.place; memory = m }

abbrev pub with_memory : Result Reach Fault → List ℕ → Loaded
with_memory v m = loaded (verdict_in v) m
