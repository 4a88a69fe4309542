-- One more byte at each turn.
use Rattle.text_writing.specs.Lemmas.Writing.{after}
use Rattle.listing.specs.Lemmas.Lines.{one_byte}
use Rattle.listing.proofs.line.put_bytes.Goals as goal

pub loop-i-preserved : goal.loop-i-preserved
loop-i-preserved c =
    let wrote = rw (c.get_byte.ensures, c.plus.ensures) at c.put_spaced_hex2.ensures in
    rw (one_byte c.args.memory.now c.args.start c.loop-i.i) (after c.loop-i.invariant wrote)
