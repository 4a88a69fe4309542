-- The characters so far are written.
use Rattle.std.proofs.Common.{take}
use Rattle.text_writing.specs.Written.{Writes}
use Rattle.listing_operands.specs.Inner.Patterns.{filled}
use Rattle.listing_operands.proofs.Numbers.put_pattern.Given as goal

abbrev pub invariant-loop-character : goal.invariant-loop-character
invariant-loop-character l = Writes l.fn.out (filled l.self.byte l.self.word l.self.target (take l.character-index l.pattern)) l.out
