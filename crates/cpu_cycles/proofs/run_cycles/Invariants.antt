-- The length and the limit are tested, in that order, before any step. The loop's invariant is a `Budget`: what is left of the run goes on from here.
use Prim.Native.Nat.{◌+◌, ◌-◌}
use mathlib.Core.Path.{◌≡◌}
use lib.ListN.{length}
use Rattle.manual.specs.Stepping.{full_memory}
use Rattle.cpu_cycles.specs.Lemmas.Budget.{Budget}
use Rattle.cpu_cycles.proofs.run_cycles.Given as goal

abbrev pub invariant-loop-after : goal.invariant-loop-after
invariant-loop-after l = (length l.memory ≡ full_memory) × Budget l.limit l.lines l.initial.after l.initial.memory l.steps l.after l.memory

abbrev pub decreases-loop-after : goal.decreases-loop-after
decreases-loop-after l = l.initial.after.cycles + l.limit - l.after.cycles
