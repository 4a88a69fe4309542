-- The 56 names (manual, appendices).
use Rattle.std.specs.Prelude.{ℕ, List, Option, Some, None}
use Rattle.instruction.specs.declared.Entry.{Entry}
use Rattle.laws.specs.Characters.{characters}
use Rattle.instruction.specs.declared.Instruction.{Instruction}
use Rattle.instruction.specs.declared.Instruction.TheVariants.{Read, Store, Modify, Branch, Internal, BRK, JMP, JSR, PHA, PHP, PLA, PLP, RTI, RTS}
use Rattle.instruction.specs.declared.ReadOperation.TheVariants.{ADC, AND, BIT, CMP, CPX, CPY, EOR, LDA, LDX, LDY, ORA, SBC}
use Rattle.instruction.specs.declared.StoreOperation.TheVariants.{STA, STX, STY}
use Rattle.instruction.specs.declared.ModifyOperation.TheVariants.{ASL, DEC, INC, LSR, ROL, ROR}
use Rattle.instruction.specs.declared.BranchOperation.TheVariants.{BCC, BCS, BEQ, BMI, BNE, BPL, BVC, BVS}
use Rattle.instruction.specs.declared.InternalOperation.TheVariants.{CLC, CLD, CLI, CLV, DEX, DEY, INX, INY, NOP, SEC, SED, SEI, TAX, TAY, TSX, TXA, TXS, TYA}

unfoldable pub mnemonic : Instruction → List ℕ
mnemonic (Read ADC) = characters "ADC"
mnemonic (Read AND) = characters "AND"
mnemonic (Modify ASL) = characters "ASL"
mnemonic (Branch BCC) = characters "BCC"
mnemonic (Branch BCS) = characters "BCS"
mnemonic (Branch BEQ) = characters "BEQ"
mnemonic (Read BIT) = characters "BIT"
mnemonic (Branch BMI) = characters "BMI"
mnemonic (Branch BNE) = characters "BNE"
mnemonic (Branch BPL) = characters "BPL"
mnemonic BRK = characters "BRK"
mnemonic (Branch BVC) = characters "BVC"
mnemonic (Branch BVS) = characters "BVS"
mnemonic (Internal CLC) = characters "CLC"
mnemonic (Internal CLD) = characters "CLD"
mnemonic (Internal CLI) = characters "CLI"
mnemonic (Internal CLV) = characters "CLV"
mnemonic (Read CMP) = characters "CMP"
mnemonic (Read CPX) = characters "CPX"
mnemonic (Read CPY) = characters "CPY"
mnemonic (Modify DEC) = characters "DEC"
mnemonic (Internal DEX) = characters "DEX"
mnemonic (Internal DEY) = characters "DEY"
mnemonic (Read EOR) = characters "EOR"
mnemonic (Modify INC) = characters "INC"
mnemonic (Internal INX) = characters "INX"
mnemonic (Internal INY) = characters "INY"
mnemonic JMP = characters "JMP"
mnemonic JSR = characters "JSR"
mnemonic (Read LDA) = characters "LDA"
mnemonic (Read LDX) = characters "LDX"
mnemonic (Read LDY) = characters "LDY"
mnemonic (Modify LSR) = characters "LSR"
mnemonic (Internal NOP) = characters "NOP"
mnemonic (Read ORA) = characters "ORA"
mnemonic PHA = characters "PHA"
mnemonic PHP = characters "PHP"
mnemonic PLA = characters "PLA"
mnemonic PLP = characters "PLP"
mnemonic (Modify ROL) = characters "ROL"
mnemonic (Modify ROR) = characters "ROR"
mnemonic RTI = characters "RTI"
mnemonic RTS = characters "RTS"
mnemonic (Read SBC) = characters "SBC"
mnemonic (Internal SEC) = characters "SEC"
mnemonic (Internal SED) = characters "SED"
mnemonic (Internal SEI) = characters "SEI"
mnemonic (Store STA) = characters "STA"
mnemonic (Store STX) = characters "STX"
mnemonic (Store STY) = characters "STY"
mnemonic (Internal TAX) = characters "TAX"
mnemonic (Internal TAY) = characters "TAY"
mnemonic (Internal TSX) = characters "TSX"
mnemonic (Internal TXA) = characters "TXA"
mnemonic (Internal TXS) = characters "TXS"
mnemonic (Internal TYA) = characters "TYA"

-- the name of what an opcode means; a byte that is no opcode shows as `???`
abbrev pub name_of : Option Entry → List ℕ
name_of None = characters "???"
name_of (Some e) = mnemonic e.instruction
