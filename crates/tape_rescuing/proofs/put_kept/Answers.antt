-- The part, then the end of the line.
use Rattle.text_writing.specs.Lemmas.Writing.{after}
use Rattle.tape_rescuing.proofs.put_kept.Goals as goal

pub returns : goal.returns
returns c = after c.put_text.ensures c.put_text-2.ensures
