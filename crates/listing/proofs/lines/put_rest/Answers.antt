-- One more line at each turn.
use Rattle.std.proofs.Common.{arith}
use Rattle.text_writing.specs.Lemmas.Writing.{after}
use Rattle.listing.specs.Lemmas.Lines.{one_unknown}
use Rattle.listing.proofs.lines.put_rest.Goals as goal

pub loop-address-preserved : goal.loop-address-preserved
loop-address-preserved c =
    rw (one_unknown c.args.memory.now c.args.start c.loop-address.address (omega arith)) (after c.loop-address.invariant c.put_unknown.ensures)
