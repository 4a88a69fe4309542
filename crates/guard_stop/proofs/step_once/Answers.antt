-- With nothing guarded no step is halted.
use Rattle.std.proofs.Common.{◌≡◌, ◌+◌, ◌-◌, arith}
use Rattle.guard_stop.specs.Lemmas.Nearing.{told_by, once_ran, once_not_halted}
use Rattle.guard_stop.proofs.step_once.Goals as goal

pub returns-in-Ok : goal.returns-in-Ok
returns-in-Ok c =
    let one : c.args.steps + 1 - c.args.steps ≡ 1 = omega arith in
    once_ran _ _ _ _ _ _ (told_by (rw (c.requires.0, one) at c.guarded_part.ensures) c.in-Ok.is)

pub returns-in-Err : goal.returns-in-Err
returns-in-Err c =
    let one : c.args.steps + 1 - c.args.steps ≡ 1 = omega arith in
    absurd (once_not_halted _ _ _ _ _ _ (told_by (rw (c.requires.0, one) at c.guarded_part.ensures) c.in-Err.is))
