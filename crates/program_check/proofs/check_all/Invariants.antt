-- One log after another, in the same two buffers.
use Rattle.std.proofs.Common.{◌≡◌, ◌-◌, length}
use Rattle.program_check.proofs.check_all.Given as goal

abbrev pub invariant-loop-index : goal.invariant-loop-index
invariant-loop-index l = (length l.input ≡ length l.initial.input) × (length l.copy ≡ length l.initial.copy)

abbrev pub decreases-loop-index : goal.decreases-loop-index
decreases-loop-index l = l.count - l.index
