-- The loop's invariant: what was read is in the map, and the stretches from here on are left.
use Rattle.std.proofs.Common.{◌-◌, length}
use Rattle.guard_extract.specs.Lemmas.Stretches.{Reading}
use Rattle.guard_extract.proofs.stretches.read_stretches.Given as goal

abbrev pub invariant-loop-stretch : goal.invariant-loop-stretch
invariant-loop-stretch l = Reading l.word l.initial.map l.at l.map

abbrev pub decreases-loop-stretch : goal.decreases-loop-stretch
decreases-loop-stretch l = length l.word - l.at
