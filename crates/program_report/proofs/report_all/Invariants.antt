-- One argument after another, in the same two buffers.
use Rattle.std.proofs.Common.{◌≡◌, ◌-◌, length}
use Rattle.program_report.proofs.report_all.Given as goal

abbrev pub invariant-loop-index : goal.invariant-loop-index
invariant-loop-index l = (length l.input ≡ length l.initial.input) × (length l.image ≡ length l.initial.image)

abbrev pub decreases-loop-index : goal.decreases-loop-index
decreases-loop-index l = l.end - l.index
