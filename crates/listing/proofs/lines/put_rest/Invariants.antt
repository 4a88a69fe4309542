-- The lines so far are written.
use Prim.Native.Nat.{◌-◌}
use Rattle.text_writing.specs.Written.{Writes}
use Rattle.listing.specs.Lines.{unknown, texts}
use Rattle.listing.proofs.lines.put_rest.Given as goal

abbrev pub invariant-loop-address : goal.invariant-loop-address
invariant-loop-address l = Writes l.fn.out (texts (unknown l.memory l.start (l.address - l.start))) l.out
