-- By whether every step was made.
use Rattle.std.proofs.Common.{arith}
use Rattle.text_writing.specs.Lemmas.Writing.{ends_within}
use Rattle.sentences.specs.Sentence.{done}
use Rattle.sentences.proofs.sentence.put_done.Goals as goal

pub returns-then-is_made : goal.returns-then-is_made
unfolding done
returns-then-is_made c = rw (← c.is_made.ensures, c.if-is_made.true) c.put_all_made.ensures

pub returns-else-is_made : goal.returns-else-is_made
unfolding done
returns-else-is_made c =
    let wrote = c.put_ended_at.ensures in
    rw (← c.is_made.ensures, c.if-is_made.false) (record { wrote = wrote; upper_bound = ends_within wrote (omega arith) })
