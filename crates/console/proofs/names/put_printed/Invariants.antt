-- What was written so far, after all of which the rest is still to come.
use Rattle.std.proofs.Common.{take}
use Rattle.text_writing.specs.Written.{Writes}
use Rattle.console.specs.Names.{printed_name}
use Rattle.console.proofs.names.put_printed.Given as goal

abbrev pub invariant-loop-byte : goal.invariant-loop-byte
invariant-loop-byte l = Writes l.fn.out (take l.byte-index (printed_name l.name)) l.out
