-- One more byte at each turn.
use Rattle.std.proofs.Common.{add-one, arith}
use Rattle.tape_punching.specs.Lemmas.Punching.{sum_more}
use Rattle.tape_punching.proofs.sum_bytes.Goals as goal

pub loop-byte-preserved : goal.loop-byte-preserved
loop-byte-preserved c =
    rw (c.loop-byte.invariant, add-one c.loop-byte.byte-index, sum_more c.args.bytes.now c.loop-byte.byte-index (omega arith) c.args.sum)
