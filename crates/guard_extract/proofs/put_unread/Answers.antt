-- One part after the other; a count of 64 bits has twenty digits.
use Rattle.std.proofs.Common.{arith}
use Rattle.text_writing.specs.Lemmas.Writing.{after, ends_within}
use Rattle.guard_extract.specs.Lemmas.Lengths.{unread_fits}
use Rattle.guard_extract.proofs.put_unread.Goals as goal

pub returns : goal.returns
returns c =
    let read = after (after (after c.put_text.ensures c.put_text-2.ensures) c.put_text-3.ensures) c.put_decimal.ensures in
    let wrote = after read c.put_text-4.ensures in
    record { wrote = wrote; upper_bound = ends_within wrote (unread_fits c.args.word.now c.args.steps (omega arith)) }
