-- By what the two digits are worth.
use Rattle.std.proofs.Common.{arith}
use Rattle.text_reading.specs.Lemmas.Worth.{byte_none, byte_high, byte_both}
use Rattle.text_reading.proofs.byte_value.Goals as goal

pub returns-in_default : goal.returns-in_default
returns-in_default c = byte_none c.args.text.now c.args.at (omega arith) c.in_default.ensures.value

pub returns-in-Some-digit_of : goal.returns-in-Some-digit_of
returns-in-Some-digit_of c = byte_both c.args.text.now c.args.at c.in-Some.ensures.value c.in-Some-digit_of.ensures.value

pub returns-in-None : goal.returns-in-None
returns-in-None c = byte_high c.args.text.now c.args.at c.in-Some.ensures.value c.in-None.ensures.value
