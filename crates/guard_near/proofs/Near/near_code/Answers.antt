-- The byte between is in the byte of the map of the first or of the last.
use Rattle.std.proofs.Common.{arith, refl}
use Rattle.guard_near.specs.Lemmas.Near.{code_free}
use Rattle.guard_near.proofs.Near.near_code.Goals as goal

pub returns : goal.returns
returns c = code_free _ c.args.counter _ (omega arith) refl
