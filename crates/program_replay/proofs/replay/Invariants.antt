-- The loop's invariant: what the whole text is counted as is what the rest gives from here. There is at most one line for each
-- character passed, and at most one fault for each line.
use Rattle.std.proofs.Common.{◌≤◌, ◌-◌, ◌≡◌, length}
use Rattle.console.specs.Failing.{FailureStays}
use Rattle.program_replay.specs.Verdicts.{tally_of, tally_from}
use Rattle.program_replay.proofs.replay.Given as goal

abbrev pub invariant-loop-at : goal.invariant-loop-at
invariant-loop-at l =
    (l.lines ≤ l.at) × (l.differ ≤ l.lines)
    × (tally_of l.text ≡ tally_from (length l.text - l.lines) l.text l.at l.lines l.differ)
    × FailureStays l.initial.console.failed l.console.failed

abbrev pub decreases-loop-at : goal.decreases-loop-at
decreases-loop-at l = length l.text - l.at
