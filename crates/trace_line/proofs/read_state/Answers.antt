-- The line is that of the rest of the text, and ends inside it.
use Rattle.std.proofs.Common.{ap, sym, arith}
use Rattle.trace_line.specs.Fields.{line_from}
use Rattle.trace_line.specs.Lemmas.Machines.{no_fields, line_read, next_inside}
use Rattle.trace_line.proofs.read_state.Goals as goal

pub returns-in_err-read_fields : goal.returns-in_err-read_fields
returns-in_err-read_fields c =
    rw (c.from_residual.ensures, ← c.rest.ensures) (ap (line_from c.args.at) (no_fields _ c.in_err-read_fields.ensures))

pub returns-in_err-spelled : goal.returns-in_err-spelled
returns-in_err-spelled c =
    rw (c.from_residual-in_err-spelled.ensures, ← c.rest.ensures)
    (ap (line_from c.args.at) (line_read _ c.in_ok-read_fields.ensures c.in_err-spelled.ensures))

pub overflow_add-result : goal.overflow_add-result
overflow_add-result c =
    let read = line_read _ c.in_ok-read_fields.ensures c.in_ok-spelled.ensures in
    omega (arith, next_inside c.args.text.now c.args.at c.in_ok-spelled.spelled (omega arith) (rw c.rest.ensures at (sym read)))

pub returns : goal.returns
returns c =
    rw (← c.rest.ensures) (ap (line_from c.args.at) (line_read _ c.in_ok-read_fields.ensures c.in_ok-spelled.ensures))
