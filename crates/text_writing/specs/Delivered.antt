-- A text that is delivered into a lent buffer, with an answer and its length, or refused.
use Rattle.std.specs.Prelude.{ℕ, cond, List, ltb, length, Option, Some, None, Result, Ok, Err}
use Rattle.std.proofs.lemmas.List.Edits.{sets}
use Rattle.laws.specs.Answers.{not_refused, no_room, answer_of}
use Rattle.laws.specs.declared.answers.Refusal.{Refusal}

-- an answer, the length of the text, and the buffer with the text at its start
pub record Delivered : Type 0 where
  pub answer : ℕ
  pub size : ℕ
  pub buffer : List ℕ

-- the answer's number of what may be refused
abbrev pub answer_in : Option Refusal → ℕ
answer_in None = not_refused
answer_in (Some refusal) = answer_of refusal

-- the answer's number and the length of the text, of what the code answers
abbrev pub numbers_of : Result ℕ Refusal → ℕ × ℕ
numbers_of (Ok size) = (not_refused, size)
numbers_of (Err refusal) = (answer_of refusal, 0)

-- the same with the buffer that it leaves
abbrev pub with_buffer : Result ℕ Refusal → List ℕ → Delivered
with_buffer d buffer = record { answer = (numbers_of d).0; size = (numbers_of d).1; buffer = buffer }

-- nothing is written, and the length is 0
abbrev pub refused : ℕ → List ℕ → Delivered
refused answer buffer = record { answer = answer; size = 0; buffer = buffer }

-- a text in a buffer that holds it; in a shorter one nothing is written
abbrev pub delivered : List ℕ → List ℕ → Delivered
delivered t buffer =
    cond (ltb (length buffer) (length t)) (refused no_room buffer)
    (record { answer = not_refused; size = length t; buffer = sets buffer 0 t })
