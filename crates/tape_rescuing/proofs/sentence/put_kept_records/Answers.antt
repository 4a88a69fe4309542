-- By the number.
use Rattle.std.proofs.Common.{eq-eqb, ne_eqb}
use Rattle.text_writing.specs.Lemmas.Writing.{after}
use Rattle.tape_rescuing.proofs.sentence.put_kept_records.Goals as goal

pub returns-then-kept-eq1 : goal.returns-then-kept-eq1
returns-then-kept-eq1 c = rw (eq-eqb _ _ c.if-kept-eq1.true) (after c.put_decimal.ensures c.put_text.ensures)

pub returns-else-kept-eq1 : goal.returns-else-kept-eq1
returns-else-kept-eq1 c = rw (ne_eqb _ _ c.if-kept-eq1.false) (after c.put_decimal.ensures c.put_text-else-kept-eq1.ensures)
