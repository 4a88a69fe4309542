-- What stands there, and the end of the line.
use Rattle.text_writing.specs.Lemmas.Writing.{after}
use Rattle.listing.proofs.line.put_line.Goals as goal

pub returns : goal.returns
returns c = after c.put_instruction.ensures c.put_byte.ensures
