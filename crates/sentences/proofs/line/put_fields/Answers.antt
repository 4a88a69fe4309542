-- One field after the other; none is longer than its number can be.
use Rattle.std.proofs.Common.{arith}
use Rattle.text_writing.specs.Lemmas.Writing.{after, ends_within}
use Rattle.sentences.specs.Line.{all_fields}
use Rattle.sentences.specs.Lemmas.Lengths.{fields_fit}
use Rattle.sentences.proofs.line.put_fields.Goals as goal

pub returns : goal.returns
unfolding all_fields
returns c =
    let counted = after (rw c.from.ensures at c.put_decimal.ensures) c.put_spaced_decimal.ensures in
    let wrote = after (after counted (after c.put_byte.ensures c.put_machine.ensures)) c.put_byte-2.ensures in
    record { wrote = wrote; upper_bound = ends_within wrote (fields_fit c.args.ended (omega arith) (omega arith)) }
