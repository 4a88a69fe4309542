-- One part after the other.
use Rattle.text_writing.specs.Lemmas.Writing.{after}
use Rattle.sentences.proofs.sentence.put_ended_at.Goals as goal

pub returns : goal.returns
returns c = after (after c.put_text.ensures c.put_hex4.ensures) c.put_text-2.ensures
