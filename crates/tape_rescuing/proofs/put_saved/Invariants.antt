-- The loop's invariant: of what is saved in all, this is left.
use Rattle.std.proofs.Common.{◌≤◌, drop}
use Rattle.tape_rescuing.specs.Rescuing.{saved}
use Rattle.tape_rescuing.specs.Lemmas.Passing.{Underway}
use Rattle.tape_rescuing.proofs.put_saved.Given as goal

abbrev pub invariant-loop-at : goal.invariant-loop-at
invariant-loop-at l = (l.kept ≤ l.at) × (l.dropped ≤ l.at)
    × Underway (saved 0 l.text) (saved l.at (drop l.at l.text)) l.initial.out l.out l.kept l.dropped l.first
