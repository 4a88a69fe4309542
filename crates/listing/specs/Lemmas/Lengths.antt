-- How long a listing can be.
use Prim.Native.Nat.{ℕ, zero, suc, ◌+◌, ◌*◌, ◌≤◌}
use Rattle.std.specs.Prelude.{◌≡◌, refl, List, [], ◌∷◌, length, get_or, Option, Some, None}
use Rattle.instruction.specs.declared.Entry.{Entry}
use native.Mathlib.Omega.{arith}
use Rattle.std.proofs.Math.ListN.{length-append}
use Rattle.instruction.specs.declared.Instruction.{Instruction}
use Rattle.instruction.specs.declared.Instruction.TheVariants.{Read, Store, Modify, Branch, Internal, BRK, JMP, JSR, PHA, PHP, PLA, PLP, RTI, RTS}
use Rattle.instruction.specs.declared.ReadOperation.TheVariants.{ADC, AND, BIT, CMP, CPX, CPY, EOR, LDA, LDX, LDY, ORA, SBC}
use Rattle.instruction.specs.declared.StoreOperation.TheVariants.{STA, STX, STY}
use Rattle.instruction.specs.declared.ModifyOperation.TheVariants.{ASL, DEC, INC, LSR, ROL, ROR}
use Rattle.instruction.specs.declared.BranchOperation.TheVariants.{BCC, BCS, BEQ, BMI, BNE, BPL, BVC, BVS}
use Rattle.instruction.specs.declared.InternalOperation.TheVariants.{CLC, CLD, CLI, CLV, DEX, DEY, INX, INY, NOP, SEC, SED, SEI, TAX, TAY, TSX, TXA, TXS, TYA}
use Rattle.instruction.specs.declared.AddressingMode.{AddressingMode}
use Rattle.instruction.specs.declared.AddressingMode.TheVariants.{Accumulator, Implied, Immediate, ZeroPage, ZeroPageX, ZeroPageY, Relative, Absolute, AbsoluteX, AbsoluteY, BuggyIndirect, IndexedIndirectX, IndirectIndexedY}
use Rattle.instruction.specs.Opcodes.{decoded}
use Rattle.instruction.specs.Modes.{length_of}
use Rattle.opcode_table.specs.Names.{mnemonic, name_of}
use Rattle.listing_operands.specs.Operands.{written, operand}
use Rattle.laws.specs.Characters.{characters}
use Rattle.listing.specs.Lines.{bytes_from, size, operand_of, line_of, byte_fields, fields, text, instruction_at, longest_instruction}
use Rattle.listing.specs.Lemmas.Lines.{size_most}

-- Every name has three letters.
pub three_letters : (i : Instruction) → length (mnemonic i) ≡ 3
unfolding mnemonic
three_letters (Read o) =
    elim o as (λ k. length (mnemonic (Read k)) ≡ 3) [ ADC ↦ refl | AND ↦ refl | BIT ↦ refl | CMP ↦ refl | CPX ↦ refl | CPY ↦ refl | EOR ↦ refl | LDA ↦ refl | LDX ↦ refl | LDY ↦ refl | ORA ↦ refl | SBC ↦ refl ]
three_letters (Store o) = elim o as (λ k. length (mnemonic (Store k)) ≡ 3) [ STA ↦ refl | STX ↦ refl | STY ↦ refl ]
three_letters (Modify o) = elim o as (λ k. length (mnemonic (Modify k)) ≡ 3) [ ASL ↦ refl | DEC ↦ refl | INC ↦ refl | LSR ↦ refl | ROL ↦ refl | ROR ↦ refl ]
three_letters (Branch o) =
    elim o as (λ k. length (mnemonic (Branch k)) ≡ 3) [ BCC ↦ refl | BCS ↦ refl | BEQ ↦ refl | BMI ↦ refl | BNE ↦ refl | BPL ↦ refl | BVC ↦ refl | BVS ↦ refl ]
three_letters (Internal o) =
    elim o as (λ k. length (mnemonic (Internal k)) ≡ 3) [ CLC ↦ refl | CLD ↦ refl | CLI ↦ refl | CLV ↦ refl | DEX ↦ refl | DEY ↦ refl | INX ↦ refl | INY ↦ refl | NOP ↦ refl | SEC ↦ refl | SED ↦ refl | SEI ↦ refl | TAX ↦ refl | TAY ↦ refl | TSX ↦ refl | TXA ↦ refl | TXS ↦ refl | TYA ↦ refl ]
three_letters BRK = refl
three_letters JMP = refl
three_letters JSR = refl
three_letters PHA = refl
three_letters PHP = refl
three_letters PLA = refl
three_letters PLP = refl
three_letters RTI = refl
three_letters RTS = refl

pub name_length : (d : Option Entry) → length (name_of d) ≡ 3
name_length None = refl
name_length (Some e) = three_letters e.instruction

module _ (m : List ℕ) (at : ℕ) where
  operand_length : (mode : AddressingMode) → length (operand mode m at) ≤ 8
  unfolding operand written
  operand_length Accumulator = omega arith
  operand_length Implied = omega arith
  operand_length Immediate = omega arith
  operand_length ZeroPage = omega arith
  operand_length ZeroPageX = omega arith
  operand_length ZeroPageY = omega arith
  operand_length Relative = omega arith
  operand_length Absolute = omega arith
  operand_length AbsoluteX = omega arith
  operand_length AbsoluteY = omega arith
  operand_length BuggyIndirect = omega arith
  operand_length IndexedIndirectX = omega arith
  operand_length IndirectIndexedY = omega arith

  operand_of_length : (d : Option Entry) → length (operand_of m at d) ≤ 8
  operand_of_length None = omega arith
  operand_of_length (Some e) = operand_length e.mode

  -- an operand of a short instruction is short
  operand_share : (mode : AddressingMode) → length (operand mode m at) + 4 ≤ 6 * length_of mode
  unfolding operand written
  operand_share Accumulator = omega arith
  operand_share Implied = omega arith
  operand_share Immediate = omega arith
  operand_share ZeroPage = omega arith
  operand_share ZeroPageX = omega arith
  operand_share ZeroPageY = omega arith
  operand_share Relative = omega arith
  operand_share Absolute = omega arith
  operand_share AbsoluteX = omega arith
  operand_share AbsoluteY = omega arith
  operand_share BuggyIndirect = omega arith
  operand_share IndexedIndirectX = omega arith
  operand_share IndirectIndexedY = omega arith

  pub operand_of_share : (d : Option Entry) → length (operand_of m at d) + 4 ≤ 6 * size d
  operand_of_share None = omega arith
  operand_of_share (Some e) = operand_share e.mode

pub field_length : (bs : List ℕ) → length (byte_fields bs) ≡ 3 * length bs
field_length [] = refl
field_length (b ∷ bs) = let rest = field_length bs in omega arith

module _ (m : List ℕ) where
  pub bytes_length : (at n : ℕ) → length (bytes_from m at n) ≡ n
  bytes_length at zero = refl
  bytes_length at (suc n) = let rest = bytes_length (suc at) n in omega arith

  fields_length : (at : ℕ) (d : Option Entry) → length (fields (line_of m at d)) ≤ longest_instruction
  fields_length at d =
      simp length-append
      (omega (arith, field_length (bytes_from m at (size d)), bytes_length at (size d), size_most d, name_length d, operand_of_length m at d))

  pub instruction_length : (at : ℕ) → length (instruction_at m at) ≤ longest_instruction
  instruction_length at = fields_length at (decoded (get_or m at 0))

  -- and with its end
  line_length : (at : ℕ) (d : Option Entry) → length (text (line_of m at d)) ≤ longest_instruction + 1
  line_length at d = omega (arith, length-append (fields (line_of m at d)) (characters "\n"), fields_length at d)
