-- What a rescue saved, in a sentence.
use Rattle.std.specs.Prelude.{ℕ, cond, List, ◌++◌, eqb, Option, Some, None}
use Rattle.laws.specs.Answers.{not_refused, no_end, no_room, answer_of}
use Rattle.laws.specs.Characters.{characters}
use Rattle.text_writing.specs.Numerals.{decimal}
use Rattle.laws.specs.declared.answers.Refusal.{Refusal}
use Rattle.tape_rescuing.specs.Rescuing.{Report}

abbrev pub kept_records : ℕ → List ℕ
kept_records kept = decimal kept ++ cond (eqb kept 1) (characters " record is kept") (characters " records are kept")

-- if a reader takes the old tape, nothing stands between records; if it does not, something may have been one
abbrev pub kept_sentence : ℕ → ℕ → List ℕ
kept_sentence kept read =
    cond (eqb read not_refused) (characters "nothing was dropped: " ++ kept_records kept ++ characters "\n")
    (kept_records kept ++ characters "; something between records may have been one, or one is missing\n")

abbrev pub lost_sentence : ℕ → ℕ → ℕ → List ℕ
lost_sentence kept dropped first =
    characters "torn: " ++ kept_records kept ++ characters ", " ++ decimal dropped ++ characters " dropped, the first after " ++ decimal first
    ++ characters " characters\n"

-- what a reader answers to the old tape, by why it refuses it, if it does
abbrev pub read_answer : Option Refusal → ℕ
read_answer None = not_refused
read_answer (Some reason) = answer_of reason

-- `read` is that answer
unfoldable pub sentence : Report → ℕ → List ℕ
sentence r read =
    cond (eqb r.answer no_end) (characters "refused: more than 65535 records could be kept\n")
    (cond (eqb r.answer no_room) (characters "refused: what could be kept is longer than the buffer\n")
    (cond (eqb r.dropped 0) (kept_sentence r.kept read) (lost_sentence r.kept r.dropped r.first)))

-- the most characters that it has
abbrev pub longest_sentence : ℕ
longest_sentence = 128
