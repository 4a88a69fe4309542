-- The sum fits, 65536 more is a natural number, and that number modulo 65536 is the definition's address.
use Rattle.std.proofs.Common.{rules}
use Rattle.manual.specs.Branching.{branch_target}
use Rattle.arithmetic.proofs.Integers.{reached_fits, lifted_fits, lifted_natural, lifted_around}
use Rattle.arithmetic.proofs.signs.branch_target.Goals as goal

pub overflow_add-sum : goal.overflow_add-sum
overflow_add-sum c = reached_fits c.args.counter (search rules) (search rules) c.signed.ensures

pub overflow_add-lifted : goal.overflow_add-lifted
overflow_add-lifted c = lifted_fits c.args.counter (search rules) (search rules) c.signed.ensures

pub overflow_cast-lifted : goal.overflow_cast-lifted
overflow_cast-lifted c = lifted_natural c.args.counter (search rules) (search rules) c.signed.ensures

pub returns : goal.returns
unfolding branch_target
returns c = lifted_around c.args.counter (search rules) (search rules) c.signed.ensures
