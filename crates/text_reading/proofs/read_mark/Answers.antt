-- By the character that is there.
use Rattle.text_reading.specs.Lemmas.Found.{gone, got, somewhere, no_mark, mark_there}
use Rattle.text_reading.proofs.read_mark.Goals as goal

pub returns-in_err-character : goal.returns-in_err-character
returns-in_err-character c = rw c.from_residual.ensures (no_mark _ _ _ (gone _ c.in_err-character.ensures))

pub returns : goal.returns
returns c =
    rw (c.then_some.ensures, ← got _ c.in_ok-character.ensures) (mark_there _ _ _ (somewhere _ c.in_ok-character.ensures))
