-- A mark and a byte, as in the definition.
use Rattle.std.proofs.Common.{arith}
use Rattle.text_reading.specs.Lemmas.Found.{none, gone_place, got_place, lost_byte}
use Rattle.replay_list.specs.Lines.{spaced_byte_at}
use Rattle.replay_list.proofs.read_spaced_byte.Goals as goal

pub returns-in_err-read_mark : goal.returns-in_err-read_mark
unfolding spaced_byte_at
returns-in_err-read_mark c =
    rw c.from_residual.ensures (none _ (lost_byte c.args.text.now (omega arith) _ (gone_place _ c.in_err-read_mark.ensures)))

pub returns : goal.returns
unfolding spaced_byte_at
returns c = rw (c.read_byte.ensures, got_place _ c.in_ok-read_mark.ensures)
