-- A step that was refused leads nowhere; the derived equality tells the same as the bytes.
use mathlib.Core.Path.{◌∙◌}
use Rattle.trace_step.specs.Following.{leads_to}
use Rattle.trace_step.specs.Lemmas.Equal.{derived_lem}
use Rattle.trace_step.proofs.leads_to.Goals as goal

pub returns-then-is_made : goal.returns-then-is_made
unfolding leads_to
returns-then-is_made c =
    c.eq.ensures ∙ derived_lem c.args.stepped.machine c.args.next ∙ rw (← c.is_made.ensures, c.if-is_made.true)

pub returns-else-is_made : goal.returns-else-is_made
unfolding leads_to
returns-else-is_made c = rw (← c.is_made.ensures, c.if-is_made.false)
