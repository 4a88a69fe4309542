-- By the refusal, and by what was dropped.
use Rattle.std.proofs.Common.{eq-eqb, ne_eqb}
use Rattle.tape_rescuing.specs.Sentence.{sentence}
use Rattle.tape_rescuing.specs.Lemmas.Lengths.{other_refusal}
use Rattle.tape_rescuing.proofs.sentence.put_sentence.Goals as goal

pub returns-then-rescued-eq0-clause-wrote : goal.returns-then-rescued-eq0-clause-wrote
unfolding sentence
returns-then-rescued-eq0-clause-wrote c = rw (c.in-Ok.is, eq-eqb _ _ c.if-rescued-eq0.true) c.put_none_dropped.ensures.wrote

pub returns-else-rescued-eq0-clause-wrote : goal.returns-else-rescued-eq0-clause-wrote
unfolding sentence
returns-else-rescued-eq0-clause-wrote c = rw (c.in-Ok.is, ne_eqb _ _ c.if-rescued-eq0.false) c.put_lost.ensures.wrote

pub returns-in-NoEnd-clause-wrote : goal.returns-in-NoEnd-clause-wrote
unfolding sentence
returns-in-NoEnd-clause-wrote c = rw (c.in-Err.is, c.in-NoEnd.is) c.put_text.ensures

pub returns-in-NoRoom-clause-wrote : goal.returns-in-NoRoom-clause-wrote
unfolding sentence
returns-in-NoRoom-clause-wrote c = rw (c.in-Err.is, c.in-NoRoom.is) c.put_text-in-NoRoom.ensures

pub returns-in_default : goal.returns-in_default
returns-in_default c =
    rw (c.in-Err.is, other_refusal c.in-Err.refusal _ c.in_default.not-NoEnd c.in_default.not-NoRoom)
    (record { wrote = c.put_none_dropped-in_default.ensures.wrote; upper_bound = c.put_none_dropped-in_default.ensures.upper_bound })
