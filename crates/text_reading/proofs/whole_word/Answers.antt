-- By whether the text ends there.
use Rattle.text_reading.specs.Numbers.{whole_word}
use Rattle.text_reading.specs.Lemmas.Found.{gone, got, somewhere, not_whole, whole}
use Rattle.text_reading.proofs.whole_word.Goals as goal

pub returns-in_err-read_word : goal.returns-in_err-read_word
unfolding whole_word
returns-in_err-read_word c = rw c.from_residual.ensures (not_whole _ _ (gone _ c.in_err-read_word.ensures))

pub returns : goal.returns
unfolding whole_word
returns c =
    rw (c.only.ensures, ← got _ c.in_ok-read_word.ensures) (whole _ _ (somewhere _ c.in_ok-read_word.ensures))
