-- From tape to HEX and back, record for record: the text in the other format, unless the given one is bad or the buffer is too short.
use Rattle.std.specs.Prelude.{ℕ, ◌-◌, cond, List, length, take, ◌==◌, Result, Ok, Err}
use Rattle.laws.specs.Answers.{not_refused, answer_of}
use Rattle.text_writing.specs.Delivered.{Delivered, refused, delivered}
use Rattle.tape_records.specs.Contents.{Contents}
use Rattle.tape_paper.specs.Tapes.{tape_of}
use Rattle.tape_paper.specs.Grammar.{tape_text}
use Rattle.tape_intel.specs.IntelHex.{hex_of}
use Rattle.tape_intel.specs.Grammar.{hex_text}
use Rattle.tape_loading.specs.declared.Format.{Format}
use Rattle.tape_loading.specs.declared.Format.TheVariants.{Tape, Hex}
use Rattle.tape_loading.specs.declared.Reach.{Reach}
use Rattle.tape_loading.specs.declared.Fault.{Fault}
use Rattle.tape_moving.specs.declared.Moved.{Moved}

-- the answer, the length of the new text, how many good records stand before the first bad one of the given text and where that begins, its
-- length if there is none, and the buffer with the new text at its start
pub record Outcome : Type 0 where
  pub answer : ℕ
  pub size : ℕ
  pub good : ℕ
  pub place : ℕ
  pub buffer : List ℕ

-- the answer's number, the length of the new text, and how far the given one is good, of what the code answers
abbrev pub numbers_of : Result Moved Fault → ℕ × ℕ × Reach
numbers_of (Ok moved) = (not_refused, moved.size, moved.reach)
numbers_of (Err fault) = (answer_of fault.reason, 0, fault.reach)

-- the same with the buffer that it leaves
abbrev pub with_text : Result Moved Fault → List ℕ → Outcome
with_text m buffer =
    record { answer = (numbers_of m).0; size = (numbers_of m).1; good = (numbers_of m).2.good; place = (numbers_of m).2.place; buffer = buffer }

-- the text s with the contents c, and what became of its buffer
abbrev pub found_in : List ℕ → Contents → Delivered → Outcome
found_in s c d = record { answer = d.answer; size = d.size; good = c.good; place = length s - c.left; buffer = d.buffer }

-- moved as the text t; a bad text is refused before a short buffer
abbrev pub moved_as : List ℕ → Contents → List ℕ → List ℕ → Outcome
moved_as s c t buffer = found_in s c (cond (c.answer == not_refused) (delivered t buffer) (refused c.answer buffer))

unfoldable pub tape_to_hex : List ℕ → List ℕ → Outcome
tape_to_hex s buffer = moved_as s (tape_of s) (hex_text 0 (tape_of s).records) buffer

unfoldable pub hex_to_tape : List ℕ → List ℕ → Outcome
hex_to_tape s buffer = moved_as s (hex_of s) (tape_text 0 (hex_of s).records) buffer

-- from a format to the other one
abbrev pub moved_from : Format → List ℕ → List ℕ → Outcome
moved_from Tape s buffer = tape_to_hex s buffer
moved_from Hex s buffer = hex_to_tape s buffer

-- the text that stands at the buffer's start
abbrev pub new_text : Outcome → List ℕ
new_text o = take o.size o.buffer
