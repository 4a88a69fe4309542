-- One rule serves all operands, and both digits are those of it: what was returned, from the last call back to the first.
use Rattle.manual.specs.Decimal.{rust_sum}
use Rattle.manual.proofs.Theorems.DecimalDigits.{sum_by_digits}
use Rattle.arithmetic.proofs.decimal.adc_decimal.Goals as goal

pub returns : goal.returns
unfolding rust_sum
returns c =
    rw (
      sum_by_digits,
      c.sum_overflows.ensures,
      c.added_digit-tens.ensures,
      c.flag-2.ensures.value,
      c.added_digit-units.ensures,
      c.flag.ensures.value,
    )
