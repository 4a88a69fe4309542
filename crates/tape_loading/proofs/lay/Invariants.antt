-- The loop's invariant: what the whole text gives is what is left of it gives from here.
use Rattle.std.proofs.Common.{◌≡◌, ◌-◌, ◌≤◌, length}
use Rattle.tape_records.specs.Contents.{laid, outcome}
use Rattle.tape_loading.specs.Inner.Formats.{contents_of}
use Rattle.tape_loading.specs.Lemmas.Going.{left_at}
use Rattle.tape_loading.proofs.lay.Given as goal

abbrev pub invariant-loop-reach : goal.invariant-loop-reach
invariant-loop-reach l = (l.at ≤ length l.text) × (l.before ≤ l.at) × (length l.memory ≡ length l.initial.memory)
    × (left_at l.format l.text l.at l.before l.memory ≡ outcome l.text (contents_of l.format l.text) (laid (contents_of l.format l.text).records l.initial.memory))

abbrev pub decreases-loop-reach : goal.decreases-loop-reach
decreases-loop-reach l = length l.text - l.at
