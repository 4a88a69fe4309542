-- By the character that is there, and its value.
use Rattle.text_reading.specs.Lemmas.Found.{gone, got, somewhere, no_digit_there, other_there, digit_there}
use Rattle.text_reading.proofs.read_digit.Goals as goal

pub returns-in_err-character : goal.returns-in_err-character
returns-in_err-character c = rw c.from_residual.ensures (no_digit_there _ _ _ (gone _ c.in_err-character.ensures))

pub returns-in_err-value : goal.returns-in_err-value
returns-in_err-value c =
    rw c.from_residual-in_err-value.ensures
    (other_there c.args.text.now c.args.at _ c.requires (rw (got _ c.in_ok-character.ensures) c.in_err-value.ensures))

pub returns : goal.returns
returns c =
    rw (c.then_some.ensures, ← got _ c.in_ok-character.ensures)
    (digit_there c.args.text.now c.args.at _ (somewhere _ c.in_ok-character.ensures) (rw (got _ c.in_ok-character.ensures) c.in_ok-value.ensures))
