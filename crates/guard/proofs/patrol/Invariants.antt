-- The loop's invariant: what the steps from the first on give is what the steps that are left give from here.
use Rattle.std.proofs.Common.{◌≡◌, ◌-◌, ◌<◌}
use Rattle.cpu.specs.Lemmas.Clock.{steps_in, Keeps}
use Rattle.cpu.specs.Inner.Turning.{raised}
use Rattle.guard_maps.specs.Maps.{in_map}
use Rattle.guard.specs.Guarded.{guarded_full}
use Rattle.guard.specs.Lemmas.Patrolling.{left_by}
use Rattle.guard.proofs.patrol.Given as goal

abbrev pub invariant-loop-steps : goal.invariant-loop-steps
invariant-loop-steps l = (steps_in l.clock < l.bound - l.made)
    × Keeps (l.bound - l.made) l.clock
    × (guarded_full (in_map l.guards.reads.now) (in_map l.guards.stores.now) (l.bound - l.made) l.made (raised l.nmi) l.start l.initial.memory
    ≡ left_by (in_map l.guards.reads.now) (in_map l.guards.stores.now) l.start l.nmi l.made l.bound l.clock l.registers l.memory)

abbrev pub decreases-loop-steps : goal.decreases-loop-steps
decreases-loop-steps l = l.clock
