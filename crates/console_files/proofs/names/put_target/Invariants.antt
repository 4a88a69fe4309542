-- A name stands at the start of the buffer.
use Rattle.std.proofs.Common.{◌≤◌, length}
use Rattle.console_files.proofs.names.put_target.Given as goal

abbrev pub invariant-loop : goal.invariant-loop
invariant-loop l = l.size ≤ length l.name
