-- The loop's invariant: if all bytes together are 0, each of them is.
use Rattle.std.proofs.Common.{◌≡◌, ℕ, ◌<◌, get_or}
use Rattle.guard_near.proofs.Near.new.Given as goal

abbrev pub invariant-loop-i : goal.invariant-loop-i
invariant-loop-i l = l.all ≡ 0 → (j : ℕ) → j < l.i → (get_or l.guards.reads.now j 0 ≡ 0) × (get_or l.guards.stores.now j 0 ≡ 0)
