-- The bytes of an instruction, by its addressing mode (manual, chapters 5 and 6).
use Rattle.std.specs.Prelude.{ℕ, ◌+◌}
use Rattle.instruction.specs.declared.AddressingMode.{AddressingMode}
use Rattle.instruction.specs.declared.AddressingMode.TheVariants.{Accumulator, Implied, Immediate, ZeroPage, ZeroPageX, ZeroPageY, Relative, Absolute, AbsoluteX, AbsoluteY, BuggyIndirect, IndexedIndirectX, IndirectIndexedY}

-- the bytes that follow the opcode
abbrev pub operand_bytes : AddressingMode → ℕ
operand_bytes Accumulator = 0
operand_bytes Implied = 0
operand_bytes Immediate = 1
operand_bytes ZeroPage = 1
operand_bytes ZeroPageX = 1
operand_bytes ZeroPageY = 1
operand_bytes Relative = 1
operand_bytes Absolute = 2
operand_bytes AbsoluteX = 2
operand_bytes AbsoluteY = 2
operand_bytes BuggyIndirect = 2
operand_bytes IndexedIndirectX = 1
operand_bytes IndirectIndexedY = 1

-- the bytes of an instruction, its opcode among them
abbrev pub length_of : AddressingMode → ℕ
length_of mode = 1 + operand_bytes mode
