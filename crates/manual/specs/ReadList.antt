-- The bytes that a step reads, as docs/RULES.md lists them: the opcode; operand bytes by mode; two pointer bytes for (zp,X), (zp),Y and JMP
-- indirect; the target of an instruction that reads or modifies a byte of the memory; pulled bytes; FFFE and FFFF for BRK. A store's target is not read.
-- A step that serves a line reads the two bytes of its vector and nothing else.
-- The list takes no more from the definition than the address that a mode leads to, and the state between two steps. That the definition
-- reads exactly these bytes, in this order, is a theorem (Theorems/Reads).
use Rattle.std.specs.Prelude.{ℕ, zero, suc, ◌+◌, Bool, true, false, cond, List, [], ◌∷◌, ◌++◌, eqb, leb, ltb, get_or, take, Option, Some, None}
use Rattle.instruction.specs.declared.Entry.{Entry}
use Rattle.registers.specs.declared.Registers.{Registers}
use Rattle.instruction.specs.declared.Instruction.{Instruction}
use Rattle.instruction.specs.declared.Instruction.TheVariants.{Read, Store, Modify, Branch, Internal, BRK, JMP, JSR, PHA, PHP, PLA, PLP, RTI, RTS}
use Rattle.instruction.specs.declared.AddressingMode.{AddressingMode}
use Rattle.instruction.specs.declared.AddressingMode.TheVariants.{Accumulator, Implied, Immediate, ZeroPage, ZeroPageX, ZeroPageY, Relative, Absolute, AbsoluteX, AbsoluteY, BuggyIndirect, IndexedIndirectX, IndirectIndexedY}
use Rattle.instruction.specs.Modes.{operand_bytes}
use Rattle.instruction.specs.Opcodes.{decoded}
use Rattle.manual.specs.declared.Lines.{Lines}
use Rattle.manual.specs.declared.Machine.{Machine}
use Rattle.manual.specs.Micro.{exec}
use Rattle.manual.specs.Words.{low_byte, page, joined}
use Rattle.manual.specs.Addressing.{operand, target}
use Rattle.manual.specs.Outcomes.{is_made}
use Rattle.manual.specs.Interrupts.{due}
use Rattle.manual.specs.Stepping.{full_memory, highest_count, highest_bound, step_full}

-- the modes that have an address: all but the accumulator, implied, immediate and relative ones
abbrev pub addressed : AddressingMode → Bool
addressed Accumulator = false
addressed Implied = false
addressed Immediate = false
addressed ZeroPage = true
addressed ZeroPageX = true
addressed ZeroPageY = true
addressed Relative = false
addressed Absolute = true
addressed AbsoluteX = true
addressed AbsoluteY = true
addressed BuggyIndirect = true
addressed IndexedIndirectX = true
addressed IndirectIndexedY = true

-- operand bytes, as many as the mode has
abbrev pub operands : AddressingMode → Registers → List ℕ
operands mode r = take (operand_bytes mode) (operand r 1 ∷ operand r 2 ∷ [])

abbrev pub first_operand : Registers → List ℕ → ℕ
first_operand r m = get_or m (operand r 1) 0

abbrev pub second_operand : Registers → List ℕ → ℕ
second_operand r m = get_or m (operand r 2) 0

-- the two bytes of a pointer, in one page
abbrev pub pointer_at : ℕ → ℕ → List ℕ
pointer_at high b = joined high b ∷ joined high (low_byte (b + 1)) ∷ []

-- pointer bytes, for (zp,X), (zp),Y and JMP indirect
abbrev pub pointers : AddressingMode → Registers → List ℕ → List ℕ
pointers Accumulator r m = []
pointers Implied r m = []
pointers Immediate r m = []
pointers ZeroPage r m = []
pointers ZeroPageX r m = []
pointers ZeroPageY r m = []
pointers Relative r m = []
pointers Absolute r m = []
pointers AbsoluteX r m = []
pointers AbsoluteY r m = []
pointers BuggyIndirect r m = let w = joined (second_operand r m) (first_operand r m) in pointer_at (page w) (low_byte w)
pointers IndexedIndirectX r m = pointer_at 0 (low_byte (first_operand r m + r.x))
pointers IndirectIndexedY r m = pointer_at 0 (first_operand r m)

-- the address that a mode leads to, if it has one; an immediate operand is listed already
abbrev pub reached : AddressingMode → Registers → List ℕ → List ℕ
reached mode r m = cond (addressed mode) ((exec (target mode r) m).0.address ∷ []) []

-- the kth byte above the stack pointer
abbrev pub pulled : Registers → ℕ → ℕ
pulled r k = joined 1 (low_byte (r.stack.0 + k))

-- after the opcode
abbrev pub listed : Instruction → AddressingMode → Registers → List ℕ → List ℕ
listed (Read k) mode r m = operands mode r ++ pointers mode r m ++ reached mode r m
listed (Store k) mode r m = operands mode r ++ pointers mode r m
listed (Modify k) mode r m = operands mode r ++ pointers mode r m ++ reached mode r m
listed (Branch k) mode r m = operands mode r ++ pointers mode r m
listed (Internal k) mode r m = []
listed JMP mode r m = operands mode r ++ pointers mode r m
listed JSR mode r m = operand r 1 ∷ operand r 2 ∷ []
listed RTS mode r m = pulled r 1 ∷ pulled r 2 ∷ []
listed RTI mode r m = pulled r 1 ∷ pulled r 2 ∷ pulled r 3 ∷ []
listed PLA mode r m = pulled r 1 ∷ []
listed PLP mode r m = pulled r 1 ∷ []
listed PHA mode r m = []
listed PHP mode r m = []
listed BRK mode r m = 0xFFFE ∷ 0xFFFF ∷ []

abbrev pub listed_entry : Option Entry → Registers → List ℕ → List ℕ
listed_entry (Some e) r m = listed e.instruction e.mode r m
listed_entry None r m = []

-- the vector of a line that is served, or the opcode and what its row lists
abbrev pub listed_due : Option ℕ → Registers → List ℕ → List ℕ
listed_due (Some vector) r m = vector ∷ (vector + 1) ∷ []
listed_due None r m = r.counter ∷ listed_entry (decoded (get_or m r.counter 0)) r m

-- a step refused with 1 or 2 reads nothing, one refused with 3 reads the opcode
abbrev pub listed_step_full : Lines → Machine → List ℕ → List ℕ
listed_step_full lines s m = cond (ltb highest_count s.cycles) [] (listed_due (due lines s) s.registers m)

abbrev pub listed_step : ℕ → Lines → Machine → List ℕ → List ℕ
listed_step size lines s m = cond (eqb size full_memory) (listed_step_full lines s m) []

-- a run reads what its steps read, a refused last one included
abbrev pub listed_run_while : (Machine → Bool) → ℕ → Lines → Machine → List ℕ → List ℕ
listed_run_while goes zero lines s m = []
listed_run_while goes (suc n) lines s m =
    let w = exec (step_full lines s) m in
    cond (goes s) (listed_step_full lines s m ++ cond (is_made w.0.reason) (listed_run_while goes n lines w.0.machine w.1) []) []

abbrev pub listed_run_full : ℕ → Lines → Machine → List ℕ → List ℕ
listed_run_full n lines s m = listed_run_while (λ s. true) n lines s m

-- one answered 1 or 4 reads nothing
abbrev pub listed_on_full : ℕ → List ℕ → List ℕ
listed_on_full size l = cond (eqb size full_memory) l []

abbrev pub listed_bounded : ℕ → List ℕ → List ℕ
listed_bounded bound l = cond (leb bound highest_bound) l []

-- a run, one of any number of steps, and one by cycles
abbrev pub listed_run : ℕ → ℕ → Lines → Machine → List ℕ → List ℕ
listed_run size bound lines s m = listed_on_full size (listed_bounded bound (listed_run_full bound lines s m))

abbrev pub listed_long_run : ℕ → ℕ → Lines → Machine → List ℕ → List ℕ
listed_long_run size bound lines s m = listed_on_full size (listed_run_full bound lines s m)

abbrev pub listed_run_cycles : ℕ → ℕ → Lines → Machine → List ℕ → List ℕ
listed_run_cycles size limit lines s m =
    listed_on_full size (listed_bounded limit (listed_run_while (λ t. ltb t.cycles (s.cycles + limit)) limit lines s m))
