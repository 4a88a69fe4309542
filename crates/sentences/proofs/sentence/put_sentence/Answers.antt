-- By whether the goal was reached.
use Rattle.sentences.specs.Sentence.{sentence}
use Rattle.sentences.proofs.sentence.put_sentence.Goals as goal

pub returns-then-reached : goal.returns-then-reached
unfolding sentence
returns-then-reached c = rw (← c.reached.ensures, c.if-reached.true) c.put_done.ensures

pub returns-else-reached : goal.returns-else-reached
unfolding sentence
returns-else-reached c = rw (← c.reached.ensures, c.if-reached.false) c.put_meaning.ensures
