-- One more byte at each turn.
use Rattle.std.proofs.Common.{◌*◌, add-one, arith}
use Rattle.text_writing.specs.Lemmas.Writing.{after}
use Rattle.tape_records.specs.Lemmas.Loops.{values_last}
use Rattle.tape_records.proofs.store_bytes.Goals as goal

pub loop-index-preserved : goal.loop-index-preserved
loop-index-preserved c =
    rw (add-one c.loop-index.index, values_last c.loop-index.index c.args.text.now 0 (2 * c.loop-index.index) (omega arith), ← c.byte_value.ensures)
    (after c.loop-index.invariant c.put_byte.ensures)
