-- One field after the other; none is longer than its number can be.
use Rattle.std.proofs.Common.{arith}
use Rattle.text_writing.specs.Lemmas.Writing.{after, ends_within}
use Rattle.guard_extract.specs.Lemmas.Lengths.{halt_fits}
use Rattle.guard_extract.proofs.put_halt.Goals as goal

pub returns : goal.returns
returns c =
    let answered = after (rw (c.from.ensures, c.refusal.ensures) at c.put_decimal.ensures) c.put_spaced_decimal.ensures in
    let wrote = after (after answered (after c.put_byte.ensures c.put_machine.ensures)) c.put_byte-2.ensures in
    record { wrote = wrote; upper_bound = ends_within wrote (halt_fits c.args.halt (omega arith) (omega arith)) }
