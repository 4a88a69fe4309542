-- The bytes so far are written.
use Rattle.text_writing.specs.Written.{Writes}
use Rattle.listing.specs.Lines.{bytes_from, byte_fields}
use Rattle.listing.proofs.line.put_bytes.Given as goal

abbrev pub invariant-loop-i : goal.invariant-loop-i
invariant-loop-i l = Writes l.fn.out (byte_fields (bytes_from l.memory l.start l.i)) l.out
