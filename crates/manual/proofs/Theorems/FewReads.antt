-- A step reads at most five bytes.
use Rattle.std.specs.Prelude.{ℕ, ◌≤◌, ◌≡◌, refl, Bool, not, ◌&&◌, ◌||◌, List, ◌++◌, T, eqb, ltb, get_or, length, Option, Some, None}
use Rattle.std.proofs.Common.{arith, lit≤}
use Rattle.registers.specs.declared.Registers.{Registers}
use Rattle.instruction.specs.declared.Instruction.{Instruction}
use Rattle.instruction.specs.declared.Instruction.TheVariants.{Read, Store, Modify, Branch, Internal, BRK, JMP, JSR, PHA, PHP, PLA, PLP, RTI, RTS}
use Rattle.instruction.specs.declared.AddressingMode.{AddressingMode}
use Rattle.instruction.specs.declared.AddressingMode.TheVariants.{Accumulator, Implied, Immediate, ZeroPage, ZeroPageX, ZeroPageY, Relative, Absolute, AbsoluteX, AbsoluteY, BuggyIndirect, IndexedIndirectX, IndirectIndexedY}
use Rattle.instruction.specs.declared.Entry.{Entry}
use Rattle.instruction.specs.Opcodes.{decoded}
use Rattle.manual.specs.declared.Lines.{Lines}
use Rattle.manual.specs.declared.Machine.{Machine}
use Rattle.manual.specs.Micro.{reads}
use Rattle.manual.specs.Interrupts.{due}
use Rattle.manual.specs.Stepping.{full_memory, highest_count, step}
use Rattle.manual.specs.ReadList.{addressed, operands, pointers, reached, listed, listed_entry, listed_due}
use Rattle.manual.proofs.Theorems.Accesses.{is, suits, entry_suits}
use Rattle.manual.proofs.Theorems.Reads.{step_reads}
use Rattle.manual.specs.Lemmas.Programs.{either}

-- at most so many
abbrev pub Few : ℕ → List ℕ → Type 0
Few n l = length l ≤ n

few_operands : (mode : AddressingMode) (r : Registers) (m : List ℕ) → length (operands mode r ++ pointers mode r m) ≤ 4
few_operands Accumulator r m = lit≤ tt
few_operands Implied r m = lit≤ tt
few_operands Immediate r m = lit≤ tt
few_operands ZeroPage r m = lit≤ tt
few_operands ZeroPageX r m = lit≤ tt
few_operands ZeroPageY r m = lit≤ tt
few_operands Relative r m = lit≤ tt
few_operands Absolute r m = lit≤ tt
few_operands AbsoluteX r m = lit≤ tt
few_operands AbsoluteY r m = lit≤ tt
few_operands BuggyIndirect r m = lit≤ tt
few_operands IndexedIndirectX r m = lit≤ tt
few_operands IndirectIndexedY r m = lit≤ tt

few_reached : (mode : AddressingMode) (r : Registers) (m : List ℕ) (b : Bool) → T (not (is mode BuggyIndirect) && b)
    → length (operands mode r ++ pointers mode r m ++ reached mode r m) ≤ 4
few_reached Accumulator r m b h = lit≤ tt
few_reached Implied r m b h = lit≤ tt
few_reached Immediate r m b h = lit≤ tt
few_reached ZeroPage r m b h = lit≤ tt
few_reached ZeroPageX r m b h = lit≤ tt
few_reached ZeroPageY r m b h = lit≤ tt
few_reached Relative r m b h = lit≤ tt
few_reached Absolute r m b h = lit≤ tt
few_reached AbsoluteX r m b h = lit≤ tt
few_reached AbsoluteY r m b h = lit≤ tt
few_reached BuggyIndirect r m b h = absurd h
few_reached IndexedIndirectX r m b h = lit≤ tt
few_reached IndirectIndexedY r m b h = lit≤ tt

few_listed : (i : Instruction) (mode : AddressingMode) (r : Registers) (m : List ℕ) → T (suits i mode) → length (listed i mode r m) ≤ 4
few_listed (Read k) mode r m h = few_reached mode r m (addressed mode || is mode Immediate) h
few_listed (Store k) mode r m h = few_operands mode r m
few_listed (Modify k) mode r m h = few_reached mode r m (addressed mode || is mode Accumulator) h
few_listed (Branch k) mode r m h = few_operands mode r m
few_listed (Internal k) mode r m h = lit≤ tt
few_listed JMP mode r m h = few_operands mode r m
few_listed JSR mode r m h = lit≤ tt
few_listed RTS mode r m h = lit≤ tt
few_listed RTI mode r m h = lit≤ tt
few_listed PLA mode r m h = lit≤ tt
few_listed PLP mode r m h = lit≤ tt
few_listed PHA mode r m h = lit≤ tt
few_listed PHP mode r m h = lit≤ tt
few_listed BRK mode r m h = lit≤ tt

few_entry : (d : Option Entry) (r : Registers) (m : List ℕ) → ((e : Entry) → d ≡ Some e → T (suits e.instruction e.mode))
    → length (listed_entry d r m) ≤ 4
few_entry (Some e) r m h = few_listed e.instruction e.mode r m (h e refl)
few_entry None r m h = lit≤ tt

few_due : (d : Option ℕ) (r : Registers) (m : List ℕ) → length (listed_due d r m) ≤ 5
few_due (Some vector) r m = lit≤ tt
few_due None r m =
    let opcode = get_or m r.counter 0 in
    omega (arith, few_entry (decoded opcode) r m (entry_suits opcode))

pub at_most_five_reads : (size : ℕ) (lines : Lines) (s : Machine) (m : List ℕ) → length (reads (step size lines s) m) ≤ 5
at_most_five_reads size lines s m =
    rw (step_reads size lines s m)
    (either (Few 5) (eqb size full_memory) _ _
    (either (Few 5) (ltb highest_count s.cycles) _ _ (lit≤ tt) (few_due (due lines s) s.registers m))
    (lit≤ tt))
