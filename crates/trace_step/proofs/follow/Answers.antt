-- What stood at the places that the step stores to is put back.
use mathlib.Core.Path.{sym, ◌∙◌}
use Rattle.trace_step.specs.Lemmas.Places.{follow_refused, follow_made, follow_undone}
use Rattle.trace_step.specs.Lemmas.Restoring.{step_undone}
use Rattle.trace_step.proofs.follow.Goals as goal

pub returns-in_default : goal.returns-in_default
returns-in_default c = follow_refused _ _ _ c.in_default.ensures.cases

pub returns-then-leads_to : goal.returns-then-leads_to
returns-then-leads_to c =
    let step = rw (c.idle-2.ensures, c.in-Some.ensures.cases.same) at c.single_step-stepped.ensures in
    follow_made _ _ _ step (sym c.leads_to.ensures ∙ c.if-leads_to.true)

pub returns : goal.returns
returns c =
    let same = c.in-Some.ensures.cases.same in
    let step = rw (c.idle-2.ensures, same) at c.single_step-stepped.ensures in
    let places = rw (c.idle.ensures, same) at c.stores_of-stored.ensures in
    follow_undone _ _ _ step (sym c.leads_to.ensures ∙ c.if-leads_to.false)
    (c.put_back.ensures
    ∙ rw (c.get_byte-third.ensures, c.get_byte-second.ensures, c.get_byte-first.ensures, same)
    (step_undone _ c.args.machine c.args.memory.now places step))
