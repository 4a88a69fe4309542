-- One digit is the number itself; otherwise the last digit stands after those of a tenth.
use Rattle.std.proofs.Common.{◌≡◌, ◌%◌, ◌<◌, ◌≤◌, arith}
use Rattle.text_writing.specs.Lemmas.Texts.{decimal_one, decimal_more}
use Rattle.text_writing.specs.Lemmas.Writing.{after}
use Rattle.text_writing.proofs.Writer.+put_decimal.Goals as goal
use Rattle.text_writing.proofs.Writer.+put_decimal.Goals.{then-number-ge10, else-number-ge10}

pub returns : goal.returns
returns t c =
    elim c.if-number-ge10.branch [
      | then-number-ge10 w ↦
          let more : 10 ≤ c.args.number = w.if-number-ge10.true in
          rw (decimal_more _ more, ← c.digit.ensures) (after w.put_decimal.ensures (rw w.self-is at c.put_byte.ensures))
      | else-number-ge10 w ↦
          let one : c.args.number < 10 = w.if-number-ge10.false in
          let itself : c.args.number % 10 ≡ c.args.number = omega arith in
          rw (decimal_one _ one) (rw (w.self-is, c.digit.ensures, itself) at c.put_byte.ensures)
    ]
