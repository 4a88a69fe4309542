-- By whether a 0 begins the text.
use Rattle.std.proofs.Common.{◌∙◌, eq-eqb, ne_eqb}
use Rattle.text_reading.specs.Numbers.{nowhere}
use Rattle.text_reading.specs.Lemmas.Found.{some, gone_place, got_place, somewhere_place}
use Rattle.trace_line.specs.Fields.{cycles_of}
use Rattle.trace_line.proofs.read_cycles.Goals as goal

pub returns-in-Some : goal.returns-in-Some
unfolding cycles_of
returns-in-Some c =
    let there = somewhere_place _ c.in-Some.ensures in
    rw (ne_eqb _ nowhere there, got_place _ c.in-Some.ensures) (some _ (λ z. there (rw (got_place _ c.in-Some.ensures) z)))

pub returns-in-None : goal.returns-in-None
unfolding cycles_of
returns-in-None c = c.read_count.ensures ∙ rw (eq-eqb _ nowhere (gone_place _ c.in-None.ensures))
