-- By whether the text ends there.
use Rattle.text_reading.specs.Numbers.{whole_count}
use Rattle.text_reading.specs.Lemmas.Found.{gone, got, somewhere, not_whole, whole}
use Rattle.text_reading.proofs.whole_count.Goals as goal

pub returns-in_err-read_count : goal.returns-in_err-read_count
unfolding whole_count
returns-in_err-read_count c = rw c.from_residual.ensures (not_whole _ _ (gone _ c.in_err-read_count.ensures))

pub returns : goal.returns
unfolding whole_count
returns c =
    rw (c.only.ensures, ← got _ c.in_ok-read_count.ensures) (whole _ _ (somewhere _ c.in_ok-read_count.ensures))
