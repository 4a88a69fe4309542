-- Laws for the proofs of the code.
use Rattle.std.specs.Prelude.{◌+◌, ◌<◌, ◌≤◌, ◌^◌, ◌≡◌, refl, false, eqb, length}
use Rattle.std.proofs.Common.{arith, length-append}
use Rattle.laws.specs.Answers.{memory_not_full}
use Rattle.manual.specs.declared.Ended.{Ended}
use Rattle.manual.specs.declared.Reason.{Reason}
use Rattle.manual.specs.declared.Reason.TheVariants.{Made, MemoryNotFull, NoCycleRoom, NotAnOpcode, BoundTooHigh}
use Rattle.manual.specs.Outcomes.{number}
use Rattle.text_writing.specs.Numerals.{decimal}
use Rattle.text_writing.specs.Lemmas.Texts.{decimal_length}
use Rattle.trace_fields.specs.Fields.{machine_fields}
use Rattle.sentences.specs.Line.{all_fields, longest_line}

fields_length : (q : Ended)
    → length (all_fields q) ≡ length (decimal (number q.reason)) + length (decimal q.steps) + length (decimal q.machine.cycles) + 23
unfolding all_fields machine_fields
fields_length q = simp length-append (omega arith)

number_most : (r : Reason) → number r < 10
number_most Made = omega arith
number_most MemoryNotFull = omega arith
number_most NoCycleRoom = omega arith
number_most NotAnOpcode = omega arith
number_most BoundTooHigh = omega arith

-- an answer has one digit and a count of 64 bits has twenty
pub fields_fit : (q : Ended) → q.steps < 2 ^ 64 → q.machine.cycles < 2 ^ 64 → length (all_fields q) ≤ longest_line
fields_fit q s k =
    omega (
      arith,
      fields_length q,
      decimal_length 0 (number q.reason) (number_most q.reason),
      decimal_length 19 q.steps (omega arith),
      decimal_length 19 q.machine.cycles (omega arith),
    )

-- The number of another reason is another one.
pub other_number : (r : Reason) → (r ≡ MemoryNotFull → ⊥) → eqb (number r) memory_not_full ≡ false
other_number Made h = refl
other_number MemoryNotFull h = absurd (h refl)
other_number NoCycleRoom h = refl
other_number NotAnOpcode h = refl
other_number BoundTooHigh h = refl
