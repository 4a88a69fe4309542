-- One part after the other.
use Rattle.text_writing.specs.Lemmas.Writing.{after}
use Rattle.tape_loading.proofs.sentence.put_good.Goals as goal

pub returns : goal.returns
returns c = after (after c.put_text.ensures c.put_decimal.ensures) c.put_text-2.ensures
