-- The space, then the digits.
use Rattle.text_writing.specs.Lemmas.Writing.{after}
use Rattle.text_writing.proofs.Writer.put_spaced_decimal.Goals as goal

pub returns : goal.returns
returns c = after c.put_byte.ensures c.put_decimal.ensures
