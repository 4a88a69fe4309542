-- Two marks, as in the definition.
use Rattle.std.proofs.Common.{arith}
use Rattle.text_reading.specs.Lemmas.Found.{none_place, gone_place, got_place, lost_mark}
use Rattle.replay_list.specs.Lines.{bar_at}
use Rattle.replay_list.proofs.read_bar.Goals as goal

pub returns-in_err-read_mark : goal.returns-in_err-read_mark
unfolding bar_at
returns-in_err-read_mark c =
    rw c.from_residual.ensures (none_place _ (lost_mark c.args.text.now (omega arith) 124 _ (gone_place _ c.in_err-read_mark.ensures)))

pub returns : goal.returns
unfolding bar_at
returns c = rw (c.read_mark-2.ensures, got_place _ c.in_ok-read_mark.ensures)
