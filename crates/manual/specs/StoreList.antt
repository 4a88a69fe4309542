-- The addresses that a step stores to, exactly and in order: the target of a store or of a modified byte, and what is pushed.
use Rattle.std.specs.Prelude.{ℕ, ◌+◌, cond, List, [], ◌∷◌, eqb, ltb, get_or, Option, Some, None}
use Rattle.instruction.specs.declared.Entry.{Entry}
use Rattle.registers.specs.declared.Registers.{Registers}
use Rattle.instruction.specs.declared.Instruction.{Instruction}
use Rattle.instruction.specs.declared.Instruction.TheVariants.{Read, Store, Modify, Branch, Internal, BRK, JMP, JSR, PHA, PHP, PLA, PLP, RTI, RTS}
use Rattle.instruction.specs.declared.AddressingMode.{AddressingMode}
use Rattle.instruction.specs.Modes.{operand_bytes}
use Rattle.manual.specs.Micro.{exec}
use Rattle.manual.specs.Words.{low_byte, joined}
use Rattle.manual.specs.Addressing.{target}
use Rattle.instruction.specs.Opcodes.{decoded}
use Rattle.manual.specs.declared.Lines.{Lines}
use Rattle.manual.specs.declared.Machine.{Machine}
use Rattle.manual.specs.Interrupts.{due}
use Rattle.manual.specs.Stepping.{full_memory, highest_count}

-- the address that the mode leads to
abbrev pub aim : AddressingMode → Registers → List ℕ → ℕ
aim mode r m = (exec (target mode r) m).0.address

-- the places of three pushes
abbrev pub three_pushed : Registers → List ℕ
three_pushed r = joined 1 r.stack.0 ∷ joined 1 (low_byte (r.stack.0 + 255)) ∷ joined 1 (low_byte (r.stack.0 + 254)) ∷ []

abbrev pub stored_to : Instruction → AddressingMode → Registers → List ℕ → List ℕ
stored_to (Read k) mode r m = []
stored_to (Store k) mode r m = aim mode r m ∷ []
stored_to (Modify k) mode r m = cond (eqb (operand_bytes mode) 0) [] (aim mode r m ∷ [])
stored_to (Branch k) mode r m = []
stored_to (Internal k) mode r m = []
stored_to JMP mode r m = []
stored_to JSR mode r m = joined 1 r.stack.0 ∷ joined 1 (low_byte (r.stack.0 + 255)) ∷ []
stored_to RTS mode r m = []
stored_to RTI mode r m = []
stored_to PLA mode r m = []
stored_to PLP mode r m = []
stored_to PHA mode r m = joined 1 r.stack.0 ∷ []
stored_to PHP mode r m = joined 1 r.stack.0 ∷ []
stored_to BRK mode r m = three_pushed r

abbrev pub stored_by_entry : Option Entry → Registers → List ℕ → List ℕ
stored_by_entry (Some e) r m = stored_to e.instruction e.mode r m
stored_by_entry None r m = []

-- a line that is served pushes three bytes
abbrev pub stored_by_due : Option ℕ → Registers → List ℕ → List ℕ
stored_by_due (Some vector) r m = three_pushed r
stored_by_due None r m = stored_by_entry (decoded (get_or m r.counter 0)) r m

-- a refused step stores nothing
abbrev pub stored_by_step_full : Lines → Machine → List ℕ → List ℕ
stored_by_step_full lines s m = cond (ltb highest_count s.cycles) [] (stored_by_due (due lines s) s.registers m)

abbrev pub stored_by_step : ℕ → Lines → Machine → List ℕ → List ℕ
stored_by_step size lines s m = cond (eqb size full_memory) (stored_by_step_full lines s m) []
