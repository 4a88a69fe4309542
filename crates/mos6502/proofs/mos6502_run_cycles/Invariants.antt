-- The length and the limit are tested, in that order, before any step. The loop's invariant is a `Spending`: what is left of the run goes on from the
-- numbers.
use Prim.Native.Nat.{◌+◌, ◌-◌}
use Rattle.mos6502.specs.Lemmas.Limits.{Spending}
use Rattle.mos6502.proofs.mos6502_run_cycles.Given as goal

abbrev pub invariant-loop-cycles : goal.invariant-loop-cycles
invariant-loop-cycles l = Spending l.limit l.lines l.initial.registers l.initial.cycles l.initial.memory l.total l.registers l.cycles l.memory

abbrev pub decreases-loop-cycles : goal.decreases-loop-cycles
decreases-loop-cycles l = l.initial.cycles + l.limit - l.cycles
