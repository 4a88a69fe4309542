-- The loop's invariant: what the whole run gives is what the steps that are left give from here.
use Rattle.std.proofs.Common.{◌≡◌, ◌-◌}
use Rattle.guard_stop.specs.Inner.Nearing.{toward}
use Rattle.guard_stop.proofs.run_to.Given as goal

abbrev pub invariant-loop-steps : goal.invariant-loop-steps
invariant-loop-steps l = toward l.stop l.bound l.lines 0 l.initial.machine l.initial.memory ≡ toward l.stop l.bound l.lines l.steps l.machine l.memory

abbrev pub decreases-loop-steps : goal.decreases-loop-steps
decreases-loop-steps l = l.bound - l.steps
