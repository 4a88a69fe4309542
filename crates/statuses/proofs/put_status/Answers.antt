-- One part after the other; a byte has at most three digits.
use Rattle.std.proofs.Common.{arith}
use Rattle.text_writing.specs.Lemmas.Texts.{decimal_length}
use Rattle.text_writing.specs.Lemmas.Writing.{after}
use Rattle.statuses.proofs.put_status.Goals as goal

pub returns : goal.returns
returns c =
    let wrote = after (after c.put_text.ensures c.put_decimal.ensures) c.put_byte.ensures in
    record { wrote = wrote; upper_bound = omega (arith, wrote.wrote.ends, decimal_length 2 c.args.status (omega arith)) }
