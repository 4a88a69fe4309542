-- The loop's invariant: the records that are left are still to be written.
use Rattle.std.proofs.Common.{◌-◌, ◌≤◌, length, drop}
use Rattle.tape_records.specs.Contents.{contents}
use Rattle.tape_loading.specs.Inner.Formats.{item_of, contents_of}
use Rattle.tape_moving.specs.Lemmas.Passing.{Underway}
use Rattle.tape_moving.proofs.put_records.Given as goal

abbrev pub invariant-loop-reach : goal.invariant-loop-reach
invariant-loop-reach l = (l.at ≤ length l.text) × (l.before ≤ l.at)
    × Underway l.to l.text (contents_of l.from l.text) (contents (item_of l.from) 0 l.before (drop l.at l.text)) l.initial.out l.out l.before

abbrev pub decreases-loop-reach : goal.decreases-loop-reach
decreases-loop-reach l = length l.text - l.at
