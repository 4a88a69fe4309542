-- The loop's invariant: what is found and kept is right for what was read so far.
use Rattle.std.proofs.Common.{◌≤◌, length, take}
use Rattle.console.specs.Failing.{FailureStays}
use Rattle.program_check.specs.Lemmas.Turns.{Sofar}
use Rattle.program_check.proofs.log.check_from.Given as goal

abbrev pub invariant-loop : goal.invariant-loop
invariant-loop l =
    (l.kept ≤ length l.buffer) × Sofar l.initial.copy l.found.lines l.found.last l.copy (take l.kept l.buffer)
    × FailureStays l.initial.console.failed l.console.failed
