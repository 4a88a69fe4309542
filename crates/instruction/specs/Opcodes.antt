-- The 151 documented opcodes, laid out as docs/RULES.md lists them, with their base cycles (manual, appendices; the rules for the numbers).
use Rattle.std.specs.Prelude.{ℕ, cond, List, [], ◌∷◌, ◌++◌, eqb, Option, Some, None}
use Rattle.instruction.specs.declared.Instruction.{Instruction}
use Rattle.instruction.specs.declared.Instruction.TheVariants.{Read, Store, Modify, Branch, Internal, BRK, JMP, JSR, PHA, PHP, PLA, PLP, RTI, RTS}
use Rattle.instruction.specs.declared.ReadOperation.TheVariants.{ADC, AND, BIT, CMP, CPX, CPY, EOR, LDA, LDX, LDY, ORA, SBC}
use Rattle.instruction.specs.declared.StoreOperation.TheVariants.{STA, STX, STY}
use Rattle.instruction.specs.declared.ModifyOperation.TheVariants.{ASL, DEC, INC, LSR, ROL, ROR}
use Rattle.instruction.specs.declared.BranchOperation.TheVariants.{BCC, BCS, BEQ, BMI, BNE, BPL, BVC, BVS}
use Rattle.instruction.specs.declared.InternalOperation.TheVariants.{CLC, CLD, CLI, CLV, DEX, DEY, INX, INY, NOP, SEC, SED, SEI, TAX, TAY, TSX, TXA, TXS, TYA}
use Rattle.instruction.specs.declared.AddressingMode.{AddressingMode}
use Rattle.instruction.specs.declared.AddressingMode.TheVariants.{Accumulator, Implied, Immediate, ZeroPage, ZeroPageX, ZeroPageY, Relative, Absolute, AbsoluteX, AbsoluteY, BuggyIndirect, IndexedIndirectX, IndirectIndexedY}
use Rattle.instruction.specs.declared.Entry.{Entry}

-- a column: an addressing mode, and the cycles that an operation of the class takes in it
abbrev pub Column : Type 0
Column = AddressingMode × ℕ

-- a row: an opcode and what it means
abbrev pub Row : Type 0
Row = record { opcode : ℕ; entry : Entry }

abbrev pub row : Instruction → Column → ℕ → Row
row i c k = record { opcode = k; entry = record { instruction = i; mode = c.0; cycles = c.1 } }

-- one operation across its columns, with an opcode for each
abbrev pub across : List Column → Instruction → List ℕ → List Row
across [] i ks = []
across (c ∷ cs) i [] = []
across (c ∷ cs) i (k ∷ ks) = row i c k ∷ across cs i ks

-- several operations in one column, each with its opcode
abbrev pub each : Column → List (Instruction × ℕ) → List Row
each c [] = []
each c (p ∷ ps) = row p.0 c p.1 ∷ each c ps

-- The columns by class. A page cross adds to what some reads take, never to a store or a modification.
abbrev pub reading : List Column
reading =
    (Immediate, 2) ∷ (ZeroPage, 3) ∷ (ZeroPageX, 4) ∷ (Absolute, 4) ∷ (AbsoluteX, 4) ∷ (AbsoluteY, 4)
    ∷ (IndexedIndirectX, 6) ∷ (IndirectIndexedY, 5) ∷ []

abbrev pub storing : List Column
storing =
    (ZeroPage, 3) ∷ (ZeroPageX, 4) ∷ (Absolute, 4) ∷ (AbsoluteX, 5) ∷ (AbsoluteY, 5)
    ∷ (IndexedIndirectX, 6) ∷ (IndirectIndexedY, 6) ∷ []

abbrev pub modifying : List Column
modifying = (Accumulator, 2) ∷ (ZeroPage, 5) ∷ (ZeroPageX, 6) ∷ (Absolute, 6) ∷ (AbsoluteX, 7) ∷ []

abbrev pub modifying_memory : List Column
modifying_memory = (ZeroPage, 5) ∷ (ZeroPageX, 6) ∷ (Absolute, 6) ∷ (AbsoluteX, 7) ∷ []

unfoldable pub rows : List Row
rows =
    across reading (Read ORA) (0x09 ∷ 0x05 ∷ 0x15 ∷ 0x0D ∷ 0x1D ∷ 0x19 ∷ 0x01 ∷ 0x11 ∷ [])
    ++ across reading (Read AND) (0x29 ∷ 0x25 ∷ 0x35 ∷ 0x2D ∷ 0x3D ∷ 0x39 ∷ 0x21 ∷ 0x31 ∷ [])
    ++ across reading (Read EOR) (0x49 ∷ 0x45 ∷ 0x55 ∷ 0x4D ∷ 0x5D ∷ 0x59 ∷ 0x41 ∷ 0x51 ∷ [])
    ++ across reading (Read ADC) (0x69 ∷ 0x65 ∷ 0x75 ∷ 0x6D ∷ 0x7D ∷ 0x79 ∷ 0x61 ∷ 0x71 ∷ [])
    ++ across reading (Read LDA) (0xA9 ∷ 0xA5 ∷ 0xB5 ∷ 0xAD ∷ 0xBD ∷ 0xB9 ∷ 0xA1 ∷ 0xB1 ∷ [])
    ++ across reading (Read CMP) (0xC9 ∷ 0xC5 ∷ 0xD5 ∷ 0xCD ∷ 0xDD ∷ 0xD9 ∷ 0xC1 ∷ 0xD1 ∷ [])
    ++ across reading (Read SBC) (0xE9 ∷ 0xE5 ∷ 0xF5 ∷ 0xED ∷ 0xFD ∷ 0xF9 ∷ 0xE1 ∷ 0xF1 ∷ [])
    ++ across storing (Store STA) (0x85 ∷ 0x95 ∷ 0x8D ∷ 0x9D ∷ 0x99 ∷ 0x81 ∷ 0x91 ∷ [])
    ++ across modifying (Modify ASL) (0x0A ∷ 0x06 ∷ 0x16 ∷ 0x0E ∷ 0x1E ∷ [])
    ++ across modifying (Modify ROL) (0x2A ∷ 0x26 ∷ 0x36 ∷ 0x2E ∷ 0x3E ∷ [])
    ++ across modifying (Modify LSR) (0x4A ∷ 0x46 ∷ 0x56 ∷ 0x4E ∷ 0x5E ∷ [])
    ++ across modifying (Modify ROR) (0x6A ∷ 0x66 ∷ 0x76 ∷ 0x6E ∷ 0x7E ∷ [])
    ++ across modifying_memory (Modify DEC) (0xC6 ∷ 0xD6 ∷ 0xCE ∷ 0xDE ∷ [])
    ++ across modifying_memory (Modify INC) (0xE6 ∷ 0xF6 ∷ 0xEE ∷ 0xFE ∷ [])
    ++ across ((Immediate, 2) ∷ (ZeroPage, 3) ∷ (ZeroPageY, 4) ∷ (Absolute, 4) ∷ (AbsoluteY, 4) ∷ []) (Read LDX) (0xA2 ∷ 0xA6 ∷ 0xB6 ∷ 0xAE ∷ 0xBE ∷ [])
    ++ across ((Immediate, 2) ∷ (ZeroPage, 3) ∷ (ZeroPageX, 4) ∷ (Absolute, 4) ∷ (AbsoluteX, 4) ∷ []) (Read LDY) (0xA0 ∷ 0xA4 ∷ 0xB4 ∷ 0xAC ∷ 0xBC ∷ [])
    ++ across ((ZeroPage, 3) ∷ (ZeroPageY, 4) ∷ (Absolute, 4) ∷ []) (Store STX) (0x86 ∷ 0x96 ∷ 0x8E ∷ [])
    ++ across ((ZeroPage, 3) ∷ (ZeroPageX, 4) ∷ (Absolute, 4) ∷ []) (Store STY) (0x84 ∷ 0x94 ∷ 0x8C ∷ [])
    ++ across ((Immediate, 2) ∷ (ZeroPage, 3) ∷ (Absolute, 4) ∷ []) (Read CPX) (0xE0 ∷ 0xE4 ∷ 0xEC ∷ [])
    ++ across ((Immediate, 2) ∷ (ZeroPage, 3) ∷ (Absolute, 4) ∷ []) (Read CPY) (0xC0 ∷ 0xC4 ∷ 0xCC ∷ [])
    ++ across ((ZeroPage, 3) ∷ (Absolute, 4) ∷ []) (Read BIT) (0x24 ∷ 0x2C ∷ [])
    ++ across ((Absolute, 3) ∷ (BuggyIndirect, 5) ∷ []) JMP (0x4C ∷ 0x6C ∷ [])
    ++ across ((Absolute, 6) ∷ []) JSR (0x20 ∷ [])
    ++ each (Relative, 2) ((Branch BPL, 0x10) ∷ (Branch BMI, 0x30) ∷ (Branch BVC, 0x50) ∷ (Branch BVS, 0x70) ∷ [])
    ++ each (Relative, 2) ((Branch BCC, 0x90) ∷ (Branch BCS, 0xB0) ∷ (Branch BNE, 0xD0) ∷ (Branch BEQ, 0xF0) ∷ [])
    ++ each (Implied, 7) ((BRK, 0x00) ∷ [])
    ++ each (Implied, 6) ((RTI, 0x40) ∷ (RTS, 0x60) ∷ [])
    ++ each (Implied, 3) ((PHP, 0x08) ∷ (PHA, 0x48) ∷ [])
    ++ each (Implied, 4) ((PLP, 0x28) ∷ (PLA, 0x68) ∷ [])
    ++ each (Implied, 2) ((Internal DEY, 0x88) ∷ (Internal TAY, 0xA8) ∷ (Internal INY, 0xC8) ∷ (Internal INX, 0xE8) ∷ [])
    ++ each (Implied, 2) ((Internal CLC, 0x18) ∷ (Internal SEC, 0x38) ∷ (Internal CLI, 0x58) ∷ (Internal SEI, 0x78) ∷ [])
    ++ each (Implied, 2) ((Internal TYA, 0x98) ∷ (Internal CLV, 0xB8) ∷ (Internal CLD, 0xD8) ∷ (Internal SED, 0xF8) ∷ [])
    ++ each (Implied, 2) ((Internal TXA, 0x8A) ∷ (Internal TXS, 0x9A) ∷ (Internal TAX, 0xAA) ∷ (Internal TSX, 0xBA) ∷ [])
    ++ each (Implied, 2) ((Internal DEX, 0xCA) ∷ (Internal NOP, 0xEA) ∷ [])

abbrev pub find : ℕ → List Row → Option Entry
find k [] = None
find k (r ∷ rs) = cond (eqb k r.opcode) (Some r.entry) (find k rs)

-- what an opcode means
unfoldable pub decoded : ℕ → Option Entry
decoded k = find k rows
