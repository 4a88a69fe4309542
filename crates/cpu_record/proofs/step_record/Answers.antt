-- The step's answer is told, and its machine is put into the record.
use Rattle.cpu_record.proofs.Theorems.Record.{on_record}
use Rattle.cpu_record.proofs.step_record.Goals as goal

pub returns : goal.returns
returns c = on_record _ _ _ _ c.single_step-stepped.ensures
