-- The two tests are those of the definition, and the number is read as it was given.
use Rattle.std.proofs.Common.{to_z-of_z}
use Rattle.manual.specs.Words.{outside}
use Rattle.arithmetic.proofs.signs.outside.Goals as goal

pub returns-then-sum-ltminus128 : goal.returns-then-sum-ltminus128
unfolding outside
returns-then-sum-ltminus128 c = rw (rw (to_z-of_z c.ranges.sum) at c.if-sum-ltminus128.true)

pub returns-else-sum-ltminus128 : goal.returns-else-sum-ltminus128
unfolding outside
returns-else-sum-ltminus128 c = rw (to_z-of_z c.ranges.sum) (rw (rw (to_z-of_z c.ranges.sum) at c.if-sum-ltminus128.false))
