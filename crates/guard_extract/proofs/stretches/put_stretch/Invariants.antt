-- The loop's invariant: the map has, besides what it had, the addresses of the stretch before the place.
use Rattle.std.proofs.Common.{◌≡◌, ◌||◌, ℕ, ◌+◌, ◌≤◌, ◌⊎◌}
use Rattle.guard_maps.specs.Maps.{in_map}
use Rattle.guard_extract.specs.Lemmas.Stretches.{before}
use Rattle.guard_extract.proofs.stretches.put_stretch.Given as goal

abbrev pub invariant-loop-place : goal.invariant-loop-place
invariant-loop-place l = (l.first ≤ l.place)
    × ((l.place ≡ l.first) ⊎ (l.place ≤ l.last + 1))
    × ((a : ℕ) → in_map l.map a ≡ (in_map l.initial.map a || before l.first l.place a))
