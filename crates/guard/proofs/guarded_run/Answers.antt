-- The length is tested before any step; then all steps are one part.
use Rattle.std.proofs.Common.{◌≡◌, ◌-◌, arith}
use Rattle.guard.specs.Lemmas.Guarding.{guarded_whole}
use Rattle.guard.proofs.guarded_run.Goals as goal

pub returns : goal.returns
returns c =
    let all : c.args.bound - 0 ≡ c.args.bound = omega arith in
    rw (guarded_whole _ _ _ _ _ _ _ c.in-Some.ensures.cases.long) (rw (c.in-Some.ensures.cases.same, all) at c.guarded_part.ensures)
