-- The loop's invariant: what the whole guarded run gives is what the steps that are left give from here.
use Rattle.std.proofs.Common.{◌≡◌, ◌-◌, ◌≤◌}
use Rattle.manual.specs.Interrupts.{idle}
use Rattle.guard_maps.specs.Maps.{in_map, nowhere}
use Rattle.guard.specs.Guarded.{guarded_full}
use Rattle.guard_extract.proofs.parts.guard_on.Given as goal

abbrev pub invariant-loop-made : goal.invariant-loop-made
invariant-loop-made l = (l.made ≤ l.steps)
    × (guarded_full (in_map l.guards.reads.now) nowhere l.steps 0 idle l.initial.machine l.initial.image ≡ guarded_full (in_map l.guards.reads.now) nowhere (l.steps - l.made) l.made idle l.machine l.image)

abbrev pub decreases-loop-made : goal.decreases-loop-made
decreases-loop-made l = l.steps - l.made
