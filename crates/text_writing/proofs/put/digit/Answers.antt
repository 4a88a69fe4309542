-- The constant's bytes are the definition's characters.
use mathlib.Core.Path.{refl}
use Rattle.text_writing.specs.Numerals.{digit}
use Rattle.text_writing.proofs.put.digit.Goals as goal

pub returns : goal.returns
unfolding digit
returns c = refl
