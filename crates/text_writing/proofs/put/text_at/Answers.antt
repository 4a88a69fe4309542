-- One more character at each turn.
use Rattle.std.proofs.Common.{arith, refl}
use Rattle.text_writing.specs.Lemmas.Texts.{nothing, more}
use Rattle.text_writing.proofs.put.text_at.Goals as goal

pub loop-character-init : goal.loop-character-init
loop-character-init c = (refl, nothing (omega arith) (omega arith))

pub loop-character-preserved : goal.loop-character-preserved
loop-character-preserved c =
    (omega (arith, c.loop-character.invariant.0), more _ c.loop-character.character-index (omega arith) c.loop-character.invariant.1 c.byte_at-next.ensures)
