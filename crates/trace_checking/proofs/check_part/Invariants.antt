-- The loop's invariant: the check of the part is that of what is left of it, after the accepted lines.
use Prim.Native.Nat.{◌-◌, ◌*◌, ◌≤◌}
use mathlib.Core.Path.{◌≡◌}
use lib.ListN.{length, drop}
use Rattle.trace_checking.specs.Checking.{later, checked_part}
use Rattle.trace_checking.proofs.check_part.Given as goal

abbrev pub invariant-loop-at : goal.invariant-loop-at
invariant-loop-at l = (21 * l.lines ≤ l.at)
    × (l.at ≤ length l.part)
    × (checked_part l.initial.last l.initial.copy l.part ≡ later 0 l.lines l.last l.copy (drop l.at l.part))

abbrev pub decreases-loop-at : goal.decreases-loop-at
decreases-loop-at l = length l.part - l.at
