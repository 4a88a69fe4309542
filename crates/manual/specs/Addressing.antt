-- The addressing modes (manual, chapters 5 and 6; relative, chapter 4). Operand bytes follow the opcode, from FFFF on to 0000.
use Rattle.std.specs.Prelude.{ℕ, ◌+◌, Bool, false, not, eqb}
use Rattle.registers.specs.declared.Registers.{Registers}
use Rattle.instruction.specs.declared.AddressingMode.{AddressingMode}
use Rattle.instruction.specs.declared.AddressingMode.TheVariants.{Accumulator, Implied, Immediate, ZeroPage, ZeroPageX, ZeroPageY, Relative, Absolute, AbsoluteX, AbsoluteY, BuggyIndirect, IndexedIndirectX, IndirectIndexedY}
use Rattle.manual.specs.declared.Target.{Target}
use Rattle.manual.specs.Micro.{Micro, done, ◌>>=◌, fetch}
use Rattle.manual.specs.Words.{low_byte, address_of, page, joined}
use Rattle.manual.specs.Branching.{branch_target}

-- the place k bytes after the opcode
abbrev pub operand : Registers → ℕ → ℕ
operand r k = address_of (r.counter + k)

-- two bytes joined to an address, the low one first
abbrev pub word : ℕ → ℕ → Micro ℕ
word p q = do
  l ← fetch p
  h ← fetch q
  done (joined h l)

-- a pointer's second byte lies in the page of its first: the zero page, or the page that JMP names
abbrev pub pointer : ℕ → ℕ → Micro ℕ
pointer high b = word (joined high b) (joined high (low_byte (b + 1)))

-- an address that is not counted from another is on the bus at once
abbrev pub plain : ℕ → Target
plain p = record { address = p; crossed = false; first = p }

-- a page is crossed if the high bytes differ: those of base and sum, or of the advanced counter and the branch's target
abbrev pub differs : ℕ → ℕ → Bool
differs base p = not (eqb (page base) (page p))

-- an index is added to the low byte of the base first: until the carry has reached the high byte, the bus has the base's page
abbrev pub indexed : ℕ → ℕ → Target
indexed base index =
    let p = address_of (base + index) in
    record { address = p; crossed = differs base p; first = joined (page base) (low_byte p) }

-- modes that have no address put none out: 0000
abbrev pub silent : ℕ → Bool → Target
silent p crossed = record { address = p; crossed = crossed; first = 0 }

-- where each mode leads (the accumulator and implied forms lead nowhere: 0000, and no instruction asks)
unfoldable pub target : AddressingMode → Registers → Micro Target
target Accumulator r = done (silent 0 false)
target Implied r = done (silent 0 false)
target Immediate r = done (silent (operand r 1) false)
target ZeroPage r = do
  b ← fetch (operand r 1)
  done (plain (joined 0 b))
target ZeroPageX r = do
  b ← fetch (operand r 1)
  done (plain (joined 0 (low_byte (b + r.x))))
target ZeroPageY r = do
  b ← fetch (operand r 1)
  done (plain (joined 0 (low_byte (b + r.y))))
target Relative r = do
  offset ← fetch (operand r 1)
  let goal = branch_target (operand r 2) offset
  done (silent goal (differs (operand r 2) goal))
target Absolute r = do
  w ← word (operand r 1) (operand r 2)
  done (plain w)
target AbsoluteX r = do
  w ← word (operand r 1) (operand r 2)
  done (indexed w r.x)
target AbsoluteY r = do
  w ← word (operand r 1) (operand r 2)
  done (indexed w r.y)
target BuggyIndirect r = do
  w ← word (operand r 1) (operand r 2)
  goal ← pointer (page w) (low_byte w)
  done (plain goal)
target IndexedIndirectX r = do
  b ← fetch (operand r 1)
  w ← pointer 0 (low_byte (b + r.x))
  done (plain w)
target IndirectIndexedY r = do
  b ← fetch (operand r 1)
  w ← pointer 0 b
  done (indexed w r.y)
