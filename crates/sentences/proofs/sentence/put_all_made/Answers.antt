-- One part after the other; a count of 64 bits has twenty digits.
use Rattle.std.proofs.Common.{arith}
use Rattle.text_writing.specs.Lemmas.Texts.{decimal_length}
use Rattle.text_writing.specs.Lemmas.Writing.{after}
use Rattle.sentences.proofs.sentence.put_all_made.Goals as goal

pub returns : goal.returns
returns c =
    let wrote = after (after c.put_text.ensures c.put_decimal.ensures) c.put_text-2.ensures in
    record { wrote = wrote; upper_bound = omega (arith, wrote.wrote.ends, decimal_length 19 c.args.steps (omega arith)) }
