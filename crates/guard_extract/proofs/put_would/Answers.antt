-- One part after the other; a count of 64 bits has twenty digits.
use Rattle.std.proofs.Common.{arith}
use Rattle.text_writing.specs.Lemmas.Writing.{after, ends_within}
use Rattle.guard_extract.specs.Lemmas.Lengths.{would_fits}
use Rattle.guard_extract.proofs.put_would.Goals as goal

pub returns : goal.returns
returns c =
    let counted = after c.put_text.ensures c.put_next.ensures in
    let wrote = after (after (after counted c.put_text-2.ensures) c.put_hex4.ensures) c.put_byte.ensures in
    record { wrote = wrote; upper_bound = ends_within wrote (would_fits c.args.steps c.args.place (omega arith)) }
