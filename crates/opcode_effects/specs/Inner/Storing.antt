-- The instructions that store.
use Rattle.std.specs.Prelude.{Bool, true, false, not, eqb}
use Rattle.instruction.specs.declared.Instruction.{Instruction}
use Rattle.instruction.specs.declared.Instruction.TheVariants.{Read, Store, Modify, Branch, Internal, BRK, JMP, JSR, PHA, PHP, PLA, PLP, RTI, RTS}
use Rattle.instruction.specs.declared.AddressingMode.{AddressingMode}
use Rattle.instruction.specs.Modes.{operand_bytes}

-- a modification with no operand byte is one of the accumulator
abbrev pub stores_in : Instruction → AddressingMode → Bool
stores_in (Read k) mode = false
stores_in (Store k) mode = true
stores_in (Modify k) mode = not (eqb (operand_bytes mode) 0)
stores_in (Branch k) mode = false
stores_in (Internal k) mode = false
stores_in BRK mode = true
stores_in JMP mode = false
stores_in JSR mode = true
stores_in PHA mode = true
stores_in PHP mode = true
stores_in PLA mode = false
stores_in PLP mode = false
stores_in RTI mode = false
stores_in RTS mode = false
