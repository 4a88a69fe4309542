-- What a reader found, in a sentence.
use Rattle.std.specs.Prelude.{ℕ, cond, List, ◌++◌, eqb}
use Rattle.laws.specs.Answers.{not_refused, memory_not_full, malformed_record, wrong_sum, past_the_end}
use Rattle.laws.specs.Characters.{characters}
use Rattle.text_writing.specs.Numerals.{decimal}
use Rattle.tape_loading.specs.declared.Format.{Format}
use Rattle.tape_loading.specs.declared.Format.TheVariants.{Tape, Hex}
use Rattle.tape_loading.specs.Answers.{Verdict}

-- the answers 5 and 8
abbrev pub malformed : Format → List ℕ
malformed Tape = characters "malformed, cut short or a stray character\n"
malformed Hex = characters "malformed, cut short, a stray character or a type other than 00 and 01\n"

abbrev pub unended : Format → List ℕ
unended Tape = characters "no end record, or a wrong number in it\n"
unended Hex = characters "no end record, or more than 65535 data records\n"

abbrev pub reason : Format → ℕ → List ℕ
reason f answer =
    cond (eqb answer malformed_record) (malformed f)
    (cond (eqb answer wrong_sum) (characters "a wrong sum\n")
    (cond (eqb answer past_the_end) (characters "past FFFF\n")
    (unended f)))

abbrev pub good_sentence : ℕ → List ℕ
good_sentence good = characters "done: all " ++ decimal good ++ characters " records are good, the end record counted\n"

abbrev pub good_records : ℕ → List ℕ
good_records good = cond (eqb good 1) (characters " good record and ") (characters " good records and ")

abbrev pub bad_sentence : Format → Verdict → List ℕ
bad_sentence f v =
    characters "refused after " ++ decimal v.good ++ good_records v.good ++ decimal v.place ++ characters " characters: "
    ++ reason f v.answer

unfoldable pub sentence : Format → Verdict → List ℕ
sentence f v =
    cond (eqb v.answer not_refused) (good_sentence v.good)
    (cond (eqb v.answer memory_not_full) (characters "refused: the image is not 65536 bytes long\n") (bad_sentence f v))

-- the most characters that it has
abbrev pub longest_sentence : ℕ
longest_sentence = 160
