-- One part after the other.
use Rattle.text_writing.specs.Lemmas.Writing.{after}
use Rattle.tape_loading.proofs.sentence.put_bad.Goals as goal

pub returns : goal.returns
returns c =
    let head = after (after (after (after c.put_text.ensures c.put_decimal.ensures) c.put_good_records.ensures) c.put_decimal-2.ensures) c.put_text-2.ensures in
    after head c.put_reason.ensures
