-- The loop's invariant: before the place i the memory is blanked, and from there on as it was.
use Rattle.std.proofs.Common.{◌≡◌, length}
use Rattle.manual.specs.Stepping.{full_memory}
use Rattle.guard_maps.specs.Maps.{in_map}
use Rattle.guard.specs.Lemmas.Blanking.{Blanks}
use Rattle.guard.proofs.extract.blank.Given as goal

abbrev pub invariant-loop-i : goal.invariant-loop-i
invariant-loop-i l = (length l.memory ≡ full_memory) × Blanks (in_map l.sealed) l.i l.initial.memory l.memory
