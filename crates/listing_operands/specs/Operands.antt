-- How the manual writes an operand (chapters 5 and 6), with the space before it: nothing if there is none.
use Rattle.std.specs.Prelude.{ℕ, ◌+◌, List, [], ◌++◌, get_or}
use Rattle.instruction.specs.declared.AddressingMode.{AddressingMode}
use Rattle.instruction.specs.declared.AddressingMode.TheVariants.{Accumulator, Implied, Immediate, ZeroPage, ZeroPageX, ZeroPageY, Relative, Absolute, AbsoluteX, AbsoluteY, BuggyIndirect, IndexedIndirectX, IndirectIndexedY}
use Rattle.manual.specs.Words.{address_of, joined}
use Rattle.manual.specs.Branching.{branch_target}
use Rattle.laws.specs.Characters.{characters}
use Rattle.text_writing.specs.Numerals.{hex2, hex4}

-- the byte after the opcode, the word there, and where a branch leads with it
abbrev pub byte_after : List ℕ → ℕ → ℕ
byte_after m at = get_or m (address_of (at + 1)) 0

abbrev pub word_after : List ℕ → ℕ → ℕ
word_after m at = joined (get_or m (address_of (at + 2)) 0) (byte_after m at)

abbrev pub leads_to : List ℕ → ℕ → ℕ
leads_to m at = branch_target (address_of (at + 2)) (byte_after m at)

-- the operand of a mode, by how these three are written
unfoldable pub written : AddressingMode → List ℕ → List ℕ → List ℕ → List ℕ
written Accumulator byte word target = characters " A"
written Implied byte word target = []
written Immediate byte word target = characters " #$" ++ byte
written ZeroPage byte word target = characters " $" ++ byte
written ZeroPageX byte word target = characters " $" ++ byte ++ characters ",X"
written ZeroPageY byte word target = characters " $" ++ byte ++ characters ",Y"
written Relative byte word target = characters " $" ++ target
written Absolute byte word target = characters " $" ++ word
written AbsoluteX byte word target = characters " $" ++ word ++ characters ",X"
written AbsoluteY byte word target = characters " $" ++ word ++ characters ",Y"
written BuggyIndirect byte word target = characters " ($" ++ word ++ characters ")"
written IndexedIndirectX byte word target = characters " ($" ++ byte ++ characters ",X)"
written IndirectIndexedY byte word target = characters " ($" ++ byte ++ characters "),Y"

unfoldable pub operand : AddressingMode → List ℕ → ℕ → List ℕ
operand mode m at = written mode (hex2 (byte_after m at)) (hex4 (word_after m at)) (hex4 (leads_to m at))
