-- The loop's invariant: what the whole turn gives is what the steps that are left give from here.
use Rattle.std.proofs.Common.{◌≡◌, suc, ◌+◌, ◌-◌, ◌<◌}
use Rattle.manual.specs.Micro.{exec}
use Rattle.manual.specs.Outcomes.{machine_of}
use Rattle.cpu.specs.Lemmas.Clock.{steps_in, cycles_in, Keeps}
use Rattle.cpu.specs.Inner.Travelling.{travelling}
use Rattle.cpu.specs.Inner.Turning.{raised}
use Rattle.cpu.proofs.walk.Given as goal

abbrev pub invariant-loop-performed : goal.invariant-loop-performed
invariant-loop-performed l = (steps_in l.clock < l.bound)
    × Keeps l.bound l.clock
    × (exec (travelling l.bound 0 0 (raised l.nmi) (machine_of l.initial.registers l.count l.nmi)) l.initial.memory
    ≡ exec (travelling (suc (steps_in l.clock)) (l.bound - 1 - steps_in l.clock) 0 (raised l.nmi) (machine_of l.registers (l.count + cycles_in l.clock) l.nmi)) l.memory)

abbrev pub decreases-loop-performed : goal.decreases-loop-performed
decreases-loop-performed l = l.clock
