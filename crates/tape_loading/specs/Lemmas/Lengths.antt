-- A sentence is short.
use Rattle.std.specs.Prelude.{ℕ, ◌+◌, ◌≤◌, ◌<◌, Bool, ◌≡◌, refl, Err, cond, ◌++◌, eqb}
use Rattle.std.proofs.Math.Bool.{true, false}
use native.Mathlib.Omega.{arith}
use Rattle.std.proofs.Math.ListN.{length}
use Rattle.std.proofs.Common.{length-append}
use Rattle.laws.specs.Answers.{not_refused, memory_not_full, malformed_record, wrong_sum, past_the_end}
use Rattle.laws.specs.Characters.{characters}
use Rattle.text_writing.specs.Numerals.{decimal}
use Rattle.text_writing.specs.Written.{Writes}
use Rattle.text_writing.specs.declared.Writer.{Writer}
use Rattle.text_writing.specs.Lemmas.Writing.{ends_within}
use Rattle.text_writing.specs.Lemmas.Texts.{decimal_length}
use Rattle.tape_loading.specs.declared.Format.{Format}
use Rattle.tape_loading.specs.declared.Format.TheVariants.{Tape, Hex}
use Rattle.laws.specs.declared.answers.Refusal.{Refusal}
use Rattle.laws.specs.declared.answers.Refusal.TheVariants.{MemoryNotFull, NoCycleRoom, NotAnOpcode, BoundTooHigh, MalformedRecord, WrongSum, PastTheEnd, NoEnd, FirstAboveLast, NoRoom, MalformedEntry, StrayEntry, WouldRead, WouldStore, NotThere}
use Rattle.tape_loading.specs.declared.Reach.{Reach}
use Rattle.tape_loading.specs.Answers.{Verdict, verdict_in}
use Rattle.tape_loading.specs.Sentence.{malformed, unended, reason, good_sentence, good_records, bad_sentence, sentence, longest_sentence}

-- the longest reason
abbrev pub longest : Format → ℕ
longest Tape = 42
longest Hex = 71

malformed_length : (f : Format) → length (malformed f) ≤ longest f
malformed_length Tape = omega arith
malformed_length Hex = omega arith

unended_length : (f : Format) → length (unended f) ≤ longest f
unended_length Tape = omega arith
unended_length Hex = omega arith

other_length : (f : Format) → 12 ≤ longest f
other_length Tape = omega arith
other_length Hex = omega arith

reason_length : (f : Format) (answer : ℕ) → length (reason f answer) ≤ longest f
reason_length f answer = by_tests (eqb answer malformed_record) (eqb answer wrong_sum) (eqb answer past_the_end)
  where
    by_tests : (t u v : Bool) → length (cond t (malformed f) (cond u (characters "a wrong sum\n") (cond v (characters "past FFFF\n") (unended f)))) ≤ longest f
    by_tests true u v = malformed_length f
    by_tests false true v = omega (arith, other_length f)
    by_tests false false true = omega (arith, other_length f)
    by_tests false false false = unended_length f

module _ (f : Format) (v : Verdict) (good< : v.good < 18446744073709551616) (place< : v.place < 18446744073709551616) where
  good_length : length (good_sentence v.good) ≤ 85
  good_length =
      omega (
        arith,
        decimal_length 19 v.good (omega arith),
        length-append (decimal v.good) (characters " records are good, the end record counted\n"),
      )

  records_length : length (good_records v.good) ≤ 18
  records_length = by_number (eqb v.good 1)
    where
      by_number : (t : Bool) → length (cond t (characters " good record and ") (characters " good records and ")) ≤ 18
      by_number true = omega arith
      by_number false = omega arith

  bad_length : length (bad_sentence f v) ≤ 85 + longest f
  bad_length =
      omega (
        arith,
        decimal_length 19 v.good (omega arith),
        decimal_length 19 v.place (omega arith),
        reason_length f v.answer,
        records_length,
        length-append (decimal v.good) (good_records v.good),
        length-append (decimal v.good ++ good_records v.good) (decimal v.place),
        length-append (decimal v.good ++ good_records v.good ++ decimal v.place) (characters " characters: "),
        length-append (decimal v.good ++ good_records v.good ++ decimal v.place ++ characters " characters: ") (reason f v.answer),
      )

  pub sentence_length : length (sentence f v) ≤ 85 + longest f
  unfolding sentence
  sentence_length = by_tests (eqb v.answer not_refused) (eqb v.answer memory_not_full)
    where
      by_tests : (t u : Bool)
          → length (cond t (good_sentence v.good) (cond u (characters "refused: the image is not 65536 bytes long\n") (bad_sentence f v))) ≤ 85 + longest f
      by_tests true u = omega (arith, good_length)
      by_tests false true = omega arith
      by_tests false false = bad_length

at_most : (f : Format) → 85 + longest f ≤ longest_sentence
at_most Tape = omega arith
at_most Hex = omega arith

pub said : (f : Format) (v : Verdict) → v.good < 18446744073709551616 → v.place < 18446744073709551616
    → {w w' : Writer} → Writes w (sentence f v) w' → w'.at ≤ w.at + longest_sentence
said f v g p w = omega (arith, ends_within w (sentence_length f v g p), at_most f)

-- Whatever is refused for another reason than its memory is bad.
pub bad_text : (f : Format) (reach : Reach) (r : Refusal) → (r ≡ MemoryNotFull → ⊥)
    → sentence f (verdict_in (Err (record { reason = r; reach = reach }))) ≡ bad_sentence f (verdict_in (Err (record { reason = r; reach = reach })))
unfolding sentence
bad_text f reach MemoryNotFull h = absurd (h refl)
bad_text f reach NoCycleRoom h = refl
bad_text f reach NotAnOpcode h = refl
bad_text f reach BoundTooHigh h = refl
bad_text f reach MalformedRecord h = refl
bad_text f reach WrongSum h = refl
bad_text f reach PastTheEnd h = refl
bad_text f reach NoEnd h = refl
bad_text f reach FirstAboveLast h = refl
bad_text f reach NoRoom h = refl
bad_text f reach MalformedEntry h = refl
bad_text f reach StrayEntry h = refl
bad_text f reach WouldRead h = refl
bad_text f reach WouldStore h = refl
bad_text f reach NotThere h = refl
