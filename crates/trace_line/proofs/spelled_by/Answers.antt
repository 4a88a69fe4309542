-- By whether PHP pushes the status byte.
use Rattle.trace_line.specs.Lemmas.Machines.{other_status, whole_line}
use Rattle.trace_line.proofs.spelled_by.Goals as goal

pub returns-then-pushed-fields : goal.returns-then-pushed-fields
returns-then-pushed-fields c = other_status _ c.requires c.state_of-machine.ensures c.pushed.ensures c.if-pushed-fields.true

pub returns : goal.returns
returns c = whole_line _ c.requires c.state_of-machine.ensures c.pushed.ensures c.if-pushed-fields.false
