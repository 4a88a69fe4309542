-- The fields of a line are short.
use Rattle.std.specs.Prelude.{◌+◌, ◌<◌, ◌≤◌, ◌^◌, ◌≡◌, length}
use Rattle.std.proofs.Common.{arith, length-append}
use Rattle.text_writing.specs.Numerals.{decimal}
use Rattle.text_writing.specs.Lemmas.Texts.{decimal_length}
use Rattle.tape_loading.specs.Answers.{Verdict}
use Rattle.tape_rescuing.specs.Rescuing.{Report}
use Rattle.program_survey.specs.Line.{read_fields, rescue_fields}

-- an answer has at most three digits, and a count of 64 bits has twenty
pub read_fits : (v : Verdict) → v.answer < 2 ^ 8 → v.good < 2 ^ 64 → v.place < 2 ^ 64 → length (read_fields v) ≤ 45
read_fits v a g p =
    let whole : length (read_fields v) ≡ length (decimal v.answer) + length (decimal v.good) + length (decimal v.place) + 2 = simp length-append (omega arith) in
    omega (
      arith,
      whole,
      decimal_length 2 v.answer (omega arith),
      decimal_length 19 v.good (omega arith),
      decimal_length 19 v.place (omega arith),
    )

pub rescue_fits : (r : Report) → r.answer < 2 ^ 8 → r.kept < 2 ^ 64 → r.dropped < 2 ^ 64 → r.first < 2 ^ 64 → length (rescue_fields r) ≤ 67
rescue_fits r a k d f =
    let whole : length (rescue_fields r) ≡ length (decimal r.answer) + length (decimal r.kept) + length (decimal r.dropped) + length (decimal r.first) + 4 = simp length-append (omega arith) in
    omega (
      arith,
      whole,
      decimal_length 2 r.answer (omega arith),
      decimal_length 19 r.kept (omega arith),
      decimal_length 19 r.dropped (omega arith),
      decimal_length 19 r.first (omega arith),
    )
