-- A byte after a space.
use Rattle.std.proofs.Common.{arith}
use Rattle.text_reading.specs.Lemmas.Found.{none, gone_place, got_place, lost_byte}
use Rattle.trace_line.specs.Fields.{field_at}
use Rattle.trace_line.proofs.read_field.Goals as goal

pub returns-in_err-read_mark : goal.returns-in_err-read_mark
unfolding field_at
returns-in_err-read_mark c =
    rw c.from_residual.ensures (none _ (lost_byte c.args.text.now (omega arith) _ (gone_place _ c.in_err-read_mark.ensures)))

pub returns : goal.returns
unfolding field_at
returns c = rw (c.read_byte.ensures, got_place _ c.in_ok-read_mark.ensures)
