-- From the record's answer and machine the step by value is made again.
use Rattle.cpu_record.proofs.Theorems.Record.{by_value}
use Rattle.cpu_record.proofs.step_by_record.Goals as goal

pub returns : goal.returns
returns c = by_value _ _ _ _ c.step_record-answer.ensures
