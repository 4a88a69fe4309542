-- Three bytes of the maps have them all.
use Rattle.std.proofs.Common.{arith}
use Rattle.guard_near.specs.Lemmas.Near.{stack_free}
use Rattle.guard_near.proofs.Near.near_stack.Goals as goal

pub returns : goal.returns
returns c = stack_free _ _ c.args.pointer (omega arith) c.above.ensures c.join.ensures c.above-2.ensures
