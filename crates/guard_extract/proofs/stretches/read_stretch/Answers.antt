-- One number, the hyphen and the other; none of them may be missing.
use Rattle.std.proofs.Common.{arith}
use Rattle.text_reading.specs.Lemmas.Found.{gone, got, somewhere, gone_place, got_place, lost_word, lost_mark}
use Rattle.guard_extract.specs.Stretches.{stretch_at}
use Rattle.guard_extract.specs.Lemmas.Stretches.{none_stretch, some_stretch}
use Rattle.guard_extract.proofs.stretches.read_stretch.Goals as goal

pub returns-in_err-first : goal.returns-in_err-first
unfolding stretch_at
returns-in_err-first c =
    rw c.from_residual.ensures (none_stretch _ (lost_word c.args.word.now (omega arith) _ (lost_mark c.args.word.now (omega arith) _ _ (gone _ c.in_err-first.ensures))))

pub returns-in_err-read_mark : goal.returns-in_err-read_mark
unfolding stretch_at
returns-in_err-read_mark c =
    rw c.from_residual-in_err-read_mark.ensures (none_stretch _ (rw (got _ c.in_ok-first.ensures) (lost_word c.args.word.now (omega arith) _ (gone_place _ c.in_err-read_mark.ensures))))

pub returns-in_err-last : goal.returns-in_err-last
unfolding stretch_at
returns-in_err-last c =
    rw c.from_residual-in_err-last.ensures (none_stretch _ (rw (got _ c.in_ok-first.ensures, got_place _ c.in_ok-read_mark.ensures) (gone _ c.in_err-last.ensures)))

pub returns : goal.returns
unfolding stretch_at
returns c = rw (got _ c.in_ok-first.ensures, got_place _ c.in_ok-read_mark.ensures, got _ c.in_ok-last.ensures) (some_stretch _ (rw (← got _ c.in_ok-last.ensures) (somewhere _ c.in_ok-last.ensures)))
