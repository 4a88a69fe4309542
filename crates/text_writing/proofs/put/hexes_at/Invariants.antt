-- The bytes so far are written.
use Rattle.std.proofs.Common.{◌≡◌, length, take}
use Rattle.std.specs.List.{flat_map}
use Rattle.text_writing.specs.Numerals.{hex2}
use Rattle.text_writing.specs.Written.{Wrote}
use Rattle.text_writing.proofs.put.hexes_at.Given as goal

abbrev pub invariant-loop-byte : goal.invariant-loop-byte
invariant-loop-byte l = (length l.out ≡ length l.fn.out) × Wrote l.fn.out l.at (flat_map hex2 (take l.byte-index l.bytes)) l.out l.next
