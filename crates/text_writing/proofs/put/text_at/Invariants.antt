-- The characters so far are written.
use Rattle.std.proofs.Common.{◌≡◌, length, take}
use Rattle.text_writing.specs.Written.{Wrote}
use Rattle.text_writing.proofs.put.text_at.Given as goal

abbrev pub invariant-loop-character : goal.invariant-loop-character
invariant-loop-character l = (length l.out ≡ length l.fn.out) × Wrote l.fn.out l.at (take l.character-index l.text) l.out l.next
