-- By what the image is.
use Rattle.std.proofs.Common.{arith}
use Rattle.text_writing.specs.Lemmas.Writing.{ends_within}
use Rattle.sentences.specs.Sentence.{refused}
use Rattle.sentences.proofs.sentence.put_refused.Goals as goal

pub returns-then-is_halted : goal.returns-then-is_halted
unfolding refused
returns-then-is_halted c =
    let wrote = c.put_text.ensures in
    rw (← c.is_halted.ensures, c.if-is_halted.true) (record { wrote = wrote; upper_bound = ends_within wrote (omega arith) })

pub returns-else-is_halted : goal.returns-else-is_halted
unfolding refused
returns-else-is_halted c =
    let wrote = c.put_text-else-is_halted.ensures in
    rw (← c.is_halted.ensures, c.if-is_halted.false) (record { wrote = wrote; upper_bound = ends_within wrote (omega arith) })
