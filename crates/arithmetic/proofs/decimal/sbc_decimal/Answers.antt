-- One rule serves all operands, and both digits are those of it: what was returned, from the last call back to the first. V is that of the sum with the complement.
use Rattle.std.proofs.Common.{◌∙◌, rules}
use Rattle.manual.specs.Decimal.{rust_difference}
use Rattle.manual.proofs.Theorems.DecimalDigits.{difference_by_digits}
use Rattle.manual.proofs.Theorems.Complement.{overflow_complement}
use Rattle.arithmetic.proofs.decimal.sbc_decimal.Goals as goal

pub returns : goal.returns
unfolding rust_difference
returns c =
    rw (
      difference_by_digits,
      c.sum_overflows.ensures ∙ overflow_complement _ _ _ (search rules) (search rules),
      c.taken_digit-tens.ensures,
      c.flag-2.ensures.value,
      c.taken_digit-units.ensures,
      c.flag.ensures.value,
    )
