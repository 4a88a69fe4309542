-- Laws of a trace's text, for the proofs of the code.
use Rattle.std.specs.Prelude.{ℕ, ◌+◌, ◌*◌, ◌^◌, ◌≤◌, ◌<◌, ◌≡◌, refl, List, [], ◌∷◌, ◌++◌, length, ◌≢◌}
use Rattle.std.proofs.Common.{arith, length-append}
use Rattle.laws.specs.Answers.{answer_of}
use Rattle.laws.specs.declared.answers.Refusal.{Refusal}
use Rattle.laws.specs.declared.answers.Refusal.TheVariants.{MemoryNotFull, NoCycleRoom, NotAnOpcode, BoundTooHigh, MalformedRecord, WrongSum, PastTheEnd, NoEnd, FirstAboveLast, NoRoom, MalformedEntry, StrayEntry, WouldRead, WouldStore, NotThere}
use Rattle.laws.specs.Characters.{characters}
use Rattle.text_writing.specs.Lemmas.Texts.{decimal_length}
use Rattle.trace_text.specs.declared.View.{View}
use Rattle.trace_text.specs.declared.View.TheVariants.{States, Steps}
use Rattle.trace_text.specs.Entries.{step_line, longest}
use Rattle.trace_text.specs.Findings.{bad_line, finding, right_or, verdict_line}

-- at most 27 characters stand after the instruction
pub line_length : (t : List ℕ) (cycles first : ℕ) → cycles < 2 ^ 64 → length (step_line t cycles first) ≤ length t + 27
line_length t cycles first h = simp length-append (omega (arith, decimal_length 19 cycles (omega arith)))

-- how long entries are: after one more, and of as many as there may be
pub one_longer : (view : View) (start steps : ℕ) {next after : ℕ} → next ≤ start + longest view * steps → after ≤ next + longest view → after ≤ start + longest view * (steps + 1)
one_longer States start steps h l = omega arith
one_longer Steps start steps h l = omega arith

pub no_longer : (view : View) (start steps : ℕ) {next bound : ℕ} → next ≤ start + longest view * steps → steps ≤ bound → next ≤ start + longest view * bound
no_longer States start steps h l = omega arith
no_longer Steps start steps h l = omega arith

pub longest_is : (view : View) → longest view ≤ 52
longest_is States = omega arith
longest_is Steps = omega arith

-- the end of a verdict's line
pub no_right : (t : List ℕ) → length t ≡ 0 → right_or t ≡ characters "\n"
no_right [] h = refl
no_right (c ∷ t) h = absurd (omega arith)

pub some_right : (t : List ℕ) → (length t ≡ 0 → ⊥) → right_or t ≡ characters " " ++ t
some_right [] h = absurd (h refl)
some_right (c ∷ t) h = refl

right_length : (t : List ℕ) → length (right_or t) ≤ 1 + length t
right_length [] = omega arith
right_length (c ∷ t) = omega arith

pub verdict_length : (answer line : ℕ) (right : List ℕ) → answer < 256 → line < 2 ^ 64 → length (verdict_line answer line right) ≤ 25 + length right
verdict_length answer line right a l =
    simp length-append
    (omega (arith, right_length right, decimal_length 2 answer (omega arith), decimal_length 19 line (omega arith)))

-- of any refusal but that of an entry that does not follow
pub other_finding : (refusal : Refusal) (number : ℕ) → (refusal ≢ StrayEntry) → finding (answer_of refusal) number ≡ bad_line number (characters " is malformed, cut short or missing\n")
unfolding finding
other_finding MemoryNotFull number never = refl
other_finding NoCycleRoom number never = refl
other_finding NotAnOpcode number never = refl
other_finding BoundTooHigh number never = refl
other_finding MalformedRecord number never = refl
other_finding WrongSum number never = refl
other_finding PastTheEnd number never = refl
other_finding NoEnd number never = refl
other_finding FirstAboveLast number never = refl
other_finding NoRoom number never = refl
other_finding MalformedEntry number never = refl
other_finding StrayEntry number never = absurd (never refl)
other_finding WouldRead number never = refl
other_finding WouldStore number never = refl
other_finding NotThere number never = refl
