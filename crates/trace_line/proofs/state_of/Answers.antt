-- The status is the one that the byte spells.
use mathlib.Core.Path.{◌∙◌}
use Rattle.trace_line.specs.Fields.{state_of}
use Rattle.trace_line.proofs.state_of.Goals as goal

pub returns : goal.returns
unfolding state_of
returns c = c.new.ensures ∙ rw (c.new-registers.ensures, c.pulled.ensures)
