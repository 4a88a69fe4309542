-- No more is read than the buffer holds, and a read does not change its length.
use Rattle.std.proofs.Common.{length, ◌-◌, ◌≤◌, ◌≡◌}
use Rattle.console.specs.Failing.{FailureStays}
use Rattle.console.proofs.outputs.Console.read_from.Given as goal

abbrev pub invariant-loop-size : goal.invariant-loop-size
invariant-loop-size l = (l.size ≤ length l.buffer) × (length l.buffer ≡ length l.initial.buffer) × FailureStays l.initial.self.failed l.self.failed

abbrev pub decreases-loop-size : goal.decreases-loop-size
decreases-loop-size l = length l.initial.buffer - l.size
