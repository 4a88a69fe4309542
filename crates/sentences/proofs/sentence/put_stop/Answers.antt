-- One part after the other.
use Rattle.text_writing.specs.Lemmas.Writing.{after}
use Rattle.sentences.proofs.sentence.put_stop.Goals as goal

pub returns : goal.returns
returns c =
    let named = after c.put_text.ensures c.put_hex2.ensures in
    after (after (after named c.put_text-2.ensures) c.put_hex4.ensures) c.put_text-3.ensures
