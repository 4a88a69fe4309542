-- The loop's invariant: what the whole guarded run gives is what the steps that are left give from here.
use Rattle.std.proofs.Common.{◌≡◌, ◌-◌}
use Rattle.guard_maps.specs.Maps.{in_map}
use Rattle.guard.specs.Guarded.{guarded_full}
use Rattle.guard.proofs.guarded_part.Given as goal

abbrev pub invariant-loop-steps : goal.invariant-loop-steps
invariant-loop-steps l = guarded_full (in_map l.guards.reads.now) (in_map l.guards.stores.now) (l.bound - l.made) l.made l.lines l.initial.machine l.initial.memory ≡ guarded_full (in_map l.guards.reads.now) (in_map l.guards.stores.now) (l.bound - l.steps) l.steps l.lines l.machine l.memory

abbrev pub decreases-loop-steps : goal.decreases-loop-steps
decreases-loop-steps l = l.bound - l.steps
