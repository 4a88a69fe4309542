-- One more character at each turn.
use Rattle.std.proofs.Common.{arith}
use Rattle.text_writing.specs.Lemmas.Writing.{after}
use Rattle.listing_operands.specs.Lemmas.Patterns.{filled_more}
use Rattle.listing_operands.proofs.Numbers.put_pattern.Goals as goal

pub loop-character-preserved : goal.loop-character-preserved
loop-character-preserved c =
    let s = c.args.self in
    rw (filled_more s.byte s.word s.target c.args.pattern.now c.loop-character.character-index (omega arith)) (after c.loop-character.invariant c.put_character.ensures)
