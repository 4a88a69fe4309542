-- A digit's value is below 16.
use Rattle.text_reading.specs.Lemmas.Worth.{small_found}
use Rattle.text_reading.proofs.digit_of.Goals as goal

pub returns-clause-small : goal.returns-clause-small
returns-clause-small c = small_found _ c.digit_value.ensures
