-- The loop's invariant is a `Round`: what is left of the run goes on from the numbers.
use Prim.Native.Nat.{◌-◌, ◌≤◌}
use Rattle.mos6502.specs.Lemmas.Rounds.{Round}
use Rattle.mos6502.proofs.go_on.Given as goal

abbrev pub invariant-loop-total : goal.invariant-loop-total
invariant-loop-total l = (l.total ≤ l.bound) × Round l.bound l.lines l.initial.registers l.initial.cycles l.initial.memory l.total l.registers l.cycles l.memory

abbrev pub decreases-loop-total : goal.decreases-loop-total
decreases-loop-total l = l.bound - l.total
