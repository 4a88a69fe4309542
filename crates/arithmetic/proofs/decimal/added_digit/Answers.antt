-- The test for 9 picks the case of the definition.
use Rattle.std.proofs.Common.{le-ltb, lt-ltb}
use Rattle.manual.specs.Decimal.{sum_digit}
use Rattle.arithmetic.proofs.decimal.added_digit.Goals as goal

pub returns-then-sum-gt9 : goal.returns-then-sum-gt9
unfolding sum_digit
returns-then-sum-gt9 c = rw (lt-ltb _ _ c.if-sum-gt9.true)

pub returns-else-sum-gt9 : goal.returns-else-sum-gt9
unfolding sum_digit
returns-else-sum-gt9 c = rw (le-ltb _ _ c.if-sum-gt9.false)
