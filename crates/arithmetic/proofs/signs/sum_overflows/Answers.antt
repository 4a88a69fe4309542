-- The signed sum fits at each step, and it is the definition's sum that `outside` is asked of.
use Rattle.std.proofs.Common.{ap, rules}
use Rattle.manual.specs.Arithmetic.{sum_overflows}
use Rattle.manual.specs.Words.{outside}
use Rattle.arithmetic.proofs.Integers.{sum_fits, sum_and_flag_fits, sum_and_flag}
use Rattle.arithmetic.proofs.signs.sum_overflows.Goals as goal

pub overflow_add-signed : goal.overflow_add-signed
overflow_add-signed c = sum_fits (search rules) (search rules) c.signed.ensures c.signed-2.ensures

pub overflow_add-signed-2 : goal.overflow_add-signed-2
overflow_add-signed-2 c = sum_and_flag_fits (search rules) (search rules) c.signed.ensures c.signed-2.ensures c.flag.ensures.upper_bound

pub returns : goal.returns
unfolding sum_overflows
returns c =
    rw (c.outside.ensures, ← c.flag.ensures.value)
    (ap outside
    (sum_and_flag (search rules) (search rules)
    c.signed.ensures c.signed-2.ensures c.flag.ensures.upper_bound))
