-- One part after the other.
use Rattle.std.proofs.Common.{arith}
use Rattle.text_writing.specs.Lemmas.Writing.{after, ends_within}
use Rattle.tape_rescuing.specs.Lemmas.Lengths.{lost_length}
use Rattle.tape_rescuing.proofs.sentence.put_lost.Goals as goal

pub returns : goal.returns
returns c =
    let records = after (after c.put_text.ensures c.put_kept_records.ensures) c.put_text-2.ensures in
    let wrote = after (after (after (after records c.put_decimal.ensures) c.put_text-3.ensures) c.put_decimal-2.ensures) c.put_text-4.ensures in
    record { wrote = wrote; upper_bound = ends_within wrote (lost_length c.args.tally.kept c.args.tally.dropped c.args.tally.first (omega arith) (omega arith) (omega arith)) }
