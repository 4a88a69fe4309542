-- The bytes so far are written.
use Rattle.text_writing.specs.Written.{Writes}
use Rattle.tape_records.specs.Inner.Reading.{values_at}
use Rattle.tape_records.proofs.store_bytes.Given as goal

abbrev pub invariant-loop-index : goal.invariant-loop-index
invariant-loop-index l = Writes l.initial.out (values_at l.index l.text 0) l.out
