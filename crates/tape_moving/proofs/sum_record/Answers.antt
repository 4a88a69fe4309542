-- The sum of the head, and that of the data.
use Rattle.std.proofs.Common.{arith}
use Rattle.text_reading.specs.Lemmas.Found.{got, gone}
use Rattle.tape_moving.specs.Lemmas.Lines.{lost_sum}
use Rattle.tape_moving.proofs.sum_record.Goals as goal

pub returns-in-Some : goal.returns-in-Some
returns-in-Some c = rw (got _ c.in-Some.ensures, c.sum.ensures)

pub returns-in-None : goal.returns-in-None
returns-in-None c = omega (arith, c.sum-in-None.ensures, lost_sum _ _ (omega arith) (gone _ c.in-None.ensures))
