-- The sum and the data are read from the text.
use Rattle.std.proofs.Common.{arith}
use Rattle.tape_moving.specs.Lemmas.Lines.{line_here}
use Rattle.tape_moving.proofs.move_record.Goals as goal

pub returns : goal.returns
returns c =
    line_here c.args.to c.args.head.count c.args.head.address c.args.place c.args.text.now (omega arith)
    c.rest.ensures c.sum_record-sum.ensures c.put_record.ensures
