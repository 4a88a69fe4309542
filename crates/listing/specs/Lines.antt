-- The lines of a listing: what each byte of a stretch of memory is, as an instruction or a part of one.
use Rattle.std.specs.Prelude.{ℕ, zero, suc, ◌-◌, cond, List, [], ◌∷◌, ◌++◌, leb, get_or, Option, Some, None}
use Rattle.instruction.specs.declared.Entry.{Entry}
use Rattle.instruction.specs.Opcodes.{decoded}
use Rattle.instruction.specs.Modes.{length_of}
use Rattle.manual.specs.Words.{address_of}
use Rattle.laws.specs.Characters.{characters}
use Rattle.text_writing.specs.Numerals.{hex2, hex4, spaced}
use Rattle.opcode_table.specs.Names.{name_of}
use Rattle.listing_operands.specs.Operands.{operand}

-- a line: an address, the bytes from there on, and what they are
pub record Line : Type 0 where
  pub address : ℕ
  pub bytes : List ℕ
  pub words : List ℕ

-- n bytes of a memory from an address on, from FFFF on to 0000
abbrev pub bytes_from : List ℕ → ℕ → ℕ → List ℕ
bytes_from m at zero = []
bytes_from m at (suc n) = get_or m (address_of at) 0 ∷ bytes_from m (suc at) n

-- the bytes that a line takes, its words and the line, by what stands at its address
abbrev pub size : Option Entry → ℕ
size None = 1
size (Some e) = length_of e.mode

abbrev pub operand_of : List ℕ → ℕ → Option Entry → List ℕ
operand_of m at None = []
operand_of m at (Some e) = operand e.mode m at

abbrev pub words : List ℕ → ℕ → Option Entry → List ℕ
words m at d = name_of d ++ operand_of m at d

abbrev pub line_of : List ℕ → ℕ → Option Entry → Line
line_of m at d = record { address = at; bytes = bytes_from m at (size d); words = words m at d }

-- bytes that are no whole instruction
abbrev pub unknown : List ℕ → ℕ → ℕ → List Line
unknown m at zero = []
unknown m at (suc n) = line_of m at None ∷ unknown m (suc at) n

-- the lines of n bytes from an address on, of which the first `covered` stand in the line before; an instruction that would run past the
-- end is shown byte by byte
unfoldable pub lines : List ℕ → ℕ → ℕ → ℕ → List Line
lines m at zero covered = []
lines m at (suc n) (suc covered) = lines m (suc at) n covered
lines m at (suc n) zero =
    let d = decoded (get_or m at 0) in
    cond (leb (size d) (suc n)) (line_of m at d ∷ lines m (suc at) n (size d - 1)) (unknown m at (suc n))

-- a line as text: its fields stand one space apart
abbrev pub byte_fields : List ℕ → List ℕ
byte_fields [] = []
byte_fields (b ∷ bs) = spaced (hex2 b) ++ byte_fields bs

abbrev pub fields : Line → List ℕ
fields l = hex4 l.address ++ byte_fields l.bytes ++ spaced l.words

abbrev pub text : Line → List ℕ
text l = fields l ++ characters "\n"

-- the fields of the line of what stands at an address
abbrev pub instruction_at : List ℕ → ℕ → List ℕ
instruction_at m at = fields (line_of m at (decoded (get_or m at 0)))

-- the most characters that it has, and the most that a line has for each of its bytes: those of `0200 0A ASL A` with its end
abbrev pub longest_instruction : ℕ
longest_instruction = 25

abbrev pub per_byte : ℕ
per_byte = 14

abbrev pub texts : List Line → List ℕ
texts [] = []
texts (l ∷ ls) = text l ++ texts ls
