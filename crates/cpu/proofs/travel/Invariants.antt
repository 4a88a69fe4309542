-- The loop's invariant is a `Round`: what is left of the run goes on from the machine.
use Rattle.std.proofs.Common.{◌-◌}
use Rattle.cpu.specs.Lemmas.Rounds.{Round}
use Rattle.cpu.proofs.travel.Given as goal

abbrev pub invariant-loop-steps : goal.invariant-loop-steps
invariant-loop-steps l = Round l.bound l.lines l.initial.machine l.initial.memory l.steps l.machine l.memory

abbrev pub decreases-loop-steps : goal.decreases-loop-steps
decreases-loop-steps l = l.bound - l.steps
