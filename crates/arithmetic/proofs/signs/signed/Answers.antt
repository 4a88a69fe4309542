-- 128 more, modulo 256, and then 128 less.
use Rattle.std.proofs.Common.{rules}
use Rattle.arithmetic.proofs.Integers.{turned, turned_fits}
use Rattle.arithmetic.proofs.signs.signed.Goals as goal

pub overflow_sub-result : goal.overflow_sub-result
overflow_sub-result c = turned_fits _ _ (search rules) c.wrapping_add_u8.ensures.value

pub returns : goal.returns
returns c = turned _ _ (search rules) c.wrapping_add_u8.ensures.value
