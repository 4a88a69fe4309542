-- One more byte at each turn.
use Rattle.std.proofs.Common.{arith, refl}
use Rattle.text_writing.specs.Lemmas.Texts.{nothing, then, hexes_more}
use Rattle.text_writing.proofs.put.hexes_at.Goals as goal

pub loop-byte-init : goal.loop-byte-init
loop-byte-init c = (refl, nothing (omega arith) (omega arith))

pub loop-byte-preserved : goal.loop-byte-preserved
loop-byte-preserved c =
    (omega (arith, c.loop-byte.invariant.0), rw (hexes_more c.args.bytes.now c.loop-byte.byte-index (omega arith)) (then c.loop-byte.invariant.1 c.hex2_at-next.ensures))
