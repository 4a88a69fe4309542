-- By the code's test.
use Rattle.std.proofs.Common.{arith, ◌∙◌, ap}
use Rattle.text_reading.specs.Found.{place_found}
use Rattle.guard_extract.specs.Lemmas.Stretches.{at_mark, end_found}
use Rattle.guard_extract.proofs.stretches.place_after.Goals as goal

pub returns-then-next-word : goal.returns-then-next-word
returns-then-next-word c = end_found c.args.word.now c.args.next c.if-next-word.true (omega arith)

pub returns : goal.returns
returns c = c.read_mark.ensures ∙ ap place_found (at_mark _ _ c.if-next-word.false)
