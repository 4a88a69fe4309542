-- A sentence is short.
use Rattle.std.specs.Prelude.{ℕ, ◌+◌, ◌≤◌, ◌<◌, Bool, true, false, cond, List, ◌++◌, eqb, length, Err, ◌≡◌, refl}
use Rattle.std.proofs.Common.{arith, length-append}
use Rattle.laws.specs.Answers.{not_refused}
use Rattle.laws.specs.Characters.{characters}
use Rattle.text_writing.specs.Numerals.{decimal}
use Rattle.text_writing.specs.Lemmas.Texts.{decimal_length}
use Rattle.tape_rescuing.specs.Sentence.{kept_records, kept_sentence, lost_sentence, sentence, longest_sentence}
use Rattle.laws.specs.declared.answers.Refusal.{Refusal}
use Rattle.laws.specs.declared.answers.Refusal.TheVariants.{MemoryNotFull, NoCycleRoom, NotAnOpcode, BoundTooHigh, MalformedRecord, WrongSum, PastTheEnd, NoEnd, FirstAboveLast, NoRoom, MalformedEntry, StrayEntry, WouldRead, WouldStore, NotThere}
use Rattle.tape_rescuing.specs.Rescuing.{report_of}

-- a part after another
most : (s t : List ℕ) {a b : ℕ} → length s ≤ a → length t ≤ b → length (s ++ t) ≤ a + b
most s t h k = omega (arith, length-append s t)

number_length : (n : ℕ) → n < 18446744073709551616 → length (decimal n) ≤ 20
number_length n h = decimal_length 19 n (omega arith)

kept_records_length : (k : ℕ) → k < 18446744073709551616 → length (kept_records k) ≤ 37
kept_records_length k h = by_number (eqb k 1)
  where
    by_number : (b : Bool) → length (decimal k ++ cond b (characters " record is kept") (characters " records are kept")) ≤ 37
    by_number true = omega (arith, most (decimal k) (characters " record is kept") {b = 15} (number_length k h) (omega arith))
    by_number false = omega (arith, most (decimal k) (characters " records are kept") {b = 17} (number_length k h) (omega arith))

pub kept_length : (k read : ℕ) → k < 18446744073709551616 → length (kept_sentence k read) ≤ longest_sentence
kept_length k read h = by_answer (eqb read not_refused)
  where
    by_answer : (b : Bool) → length (cond b (characters "nothing was dropped: " ++ kept_records k ++ characters "\n")
        (kept_records k ++ characters "; something between records may have been one, or one is missing\n")) ≤ longest_sentence
    by_answer true =
        omega (arith, most (characters "nothing was dropped: " ++ kept_records k) (characters "\n") {b = 1} (most (characters "nothing was dropped: ") (kept_records k) {a = 21} (omega arith) (kept_records_length k h)) (omega arith))
    by_answer false =
        omega (arith, most (kept_records k) (characters "; something between records may have been one, or one is missing\n") {b = 70} (kept_records_length k h) (omega arith))

pub lost_length : (k d f : ℕ) → k < 18446744073709551616 → d < 18446744073709551616 → f < 18446744073709551616 → length (lost_sentence k d f) ≤ longest_sentence
lost_length k d f k< d< f< =
    let one = characters "torn: " ++ kept_records k in
    let two = one ++ characters ", " in
    let three = two ++ decimal d in
    let four = three ++ characters " dropped, the first after " in
    let five = four ++ decimal f in
    let h₁ = most (characters "torn: ") (kept_records k) {a = 6} (omega arith) (kept_records_length k k<) in
    let h₂ = most one (characters ", ") {b = 2} h₁ (omega arith) in
    let h₃ = most two (decimal d) h₂ (number_length d d<) in
    let h₄ = most three (characters " dropped, the first after ") {b = 26} h₃ (omega arith) in
    let h₅ = most four (decimal f) h₄ (number_length f f<) in
    omega (arith, most five (characters " characters\n") {b = 12} h₅ (omega arith))

-- A rescue that is refused for another reason than its own two kept nothing.
pub other_refusal : (r : Refusal) (read : ℕ) → (r ≡ NoEnd → ⊥) → (r ≡ NoRoom → ⊥) → sentence (report_of (Err r)) read ≡ kept_sentence 0 read
unfolding sentence
other_refusal MemoryNotFull read h k = refl
other_refusal NoCycleRoom read h k = refl
other_refusal NotAnOpcode read h k = refl
other_refusal BoundTooHigh read h k = refl
other_refusal MalformedRecord read h k = refl
other_refusal WrongSum read h k = refl
other_refusal PastTheEnd read h k = refl
other_refusal NoEnd read h k = absurd (h refl)
other_refusal FirstAboveLast read h k = refl
other_refusal NoRoom read h k = absurd (k refl)
other_refusal MalformedEntry read h k = refl
other_refusal StrayEntry read h k = refl
other_refusal WouldRead read h k = refl
other_refusal WouldStore read h k = refl
other_refusal NotThere read h k = refl
