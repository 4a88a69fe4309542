-- The parts one after the other.
use Rattle.text_writing.specs.Lemmas.Writing.{after}
use Rattle.tape_moving.proofs.put_hex_record.Goals as goal

pub returns : goal.returns
returns c = after (after (after (after c.put_head.ensures c.put_hex2.ensures) c.put_text.ensures) c.put_hex2-2.ensures) c.put_text-2.ensures
