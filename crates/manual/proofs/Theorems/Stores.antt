-- The stores of a step are those of its list (StoreList), exactly and in order; at most three.
use Rattle.std.specs.Prelude.{ℕ, ◌≤◌, ◌≡◌, refl, List, T, eqb, ltb, get_or, length, Option, Some, None}
use Rattle.std.proofs.Common.{ap, ◌∙◌, lit≤}
use Rattle.registers.specs.declared.Registers.{Registers}
use Rattle.instruction.specs.declared.Instruction.{Instruction}
use Rattle.instruction.specs.declared.Instruction.TheVariants.{Read, Store, Modify, Branch, Internal, BRK, JMP, JSR, PHA, PHP, PLA, PLP, RTI, RTS}
use Rattle.instruction.specs.declared.AddressingMode.{AddressingMode}
use Rattle.instruction.specs.declared.Entry.{Entry}
use Rattle.instruction.specs.Modes.{operand_bytes}
use Rattle.instruction.specs.Opcodes.{decoded}
use Rattle.manual.specs.declared.Lines.{Lines}
use Rattle.manual.specs.declared.Machine.{Machine}
use Rattle.manual.specs.Micro.{Micro, accesses, stores_of, stores}
use Rattle.manual.specs.Interrupts.{due}
use Rattle.manual.specs.Stepping.{full_memory, highest_count, act, attend, step_full, step}
use Rattle.manual.specs.ReadList.{listed, listed_due}
use Rattle.manual.specs.Lemmas.Programs.{alike, either}
use Rattle.manual.specs.StoreList.{three_pushed, stored_to, stored_by_entry, stored_by_due, stored_by_step_full, stored_by_step}
use Rattle.manual.proofs.Theorems.Accesses.{order_of, stores_first, suits, entry_suits, act_accesses, attend_accesses, stores_in_order}
use Rattle.manual.proofs.Theorems.FewReads.{Few}

-- the program p stores to l
abbrev StoresTo : {A : Type 0} → List ℕ → Micro A → List ℕ → Type 0
StoresTo m p l = stores p m ≡ l

act_stores : (d : Option Entry) (lines : Lines) (s : Machine) (m : List ℕ) → ((e : Entry) → d ≡ Some e → T (suits e.instruction e.mode))
    → stores (act d lines s) m ≡ stored_by_entry d s.registers m
act_stores (Some e) lines s m h =
    ap stores_of (act_accesses (Some e) lines s m h)
    ∙ stores_in_order (order_of e.instruction) (listed e.instruction e.mode s.registers m) (stored_to e.instruction e.mode s.registers m)
act_stores None lines s m h = ap stores_of (act_accesses None lines s m h)

attend_stores : (d : Option ℕ) (lines : Lines) (s : Machine) (m : List ℕ) → stores (attend d lines s) m ≡ stored_by_due d s.registers m
unfolding accesses attend
attend_stores (Some vector) lines s m =
    ap stores_of (attend_accesses (Some vector) lines s m)
    ∙ stores_in_order stores_first (listed_due (Some vector) s.registers m) (three_pushed s.registers)
attend_stores None lines s m =
    let opcode = get_or m s.registers.counter 0 in
    act_stores (decoded opcode) lines s m (entry_suits opcode)

-- A step stores to exactly these addresses, in this order.
pub step_full_stores : (lines : Lines) (s : Machine) (m : List ℕ) → stores (step_full lines s) m ≡ stored_by_step_full lines s m
unfolding accesses step_full
step_full_stores lines s m = alike (StoresTo m) (ltb highest_count s.cycles) _ _ _ _ refl (attend_stores (due lines s) lines s m)

pub step_stores : (size : ℕ) (lines : Lines) (s : Machine) (m : List ℕ) → stores (step size lines s) m ≡ stored_by_step size lines s m
unfolding accesses step
step_stores size lines s m = alike (StoresTo m) (eqb size full_memory) _ _ _ _ (step_full_stores lines s m) refl

-- ---- at most three

few_stored : (i : Instruction) (mode : AddressingMode) (r : Registers) (m : List ℕ) → length (stored_to i mode r m) ≤ 3
few_stored (Read k) mode r m = lit≤ tt
few_stored (Store k) mode r m = lit≤ tt
few_stored (Modify k) mode r m = either (Few 3) (eqb (operand_bytes mode) 0) _ _ (lit≤ tt) (lit≤ tt)
few_stored (Branch k) mode r m = lit≤ tt
few_stored (Internal k) mode r m = lit≤ tt
few_stored JMP mode r m = lit≤ tt
few_stored JSR mode r m = lit≤ tt
few_stored RTS mode r m = lit≤ tt
few_stored RTI mode r m = lit≤ tt
few_stored PLA mode r m = lit≤ tt
few_stored PLP mode r m = lit≤ tt
few_stored PHA mode r m = lit≤ tt
few_stored PHP mode r m = lit≤ tt
few_stored BRK mode r m = lit≤ tt

few_by_entry : (d : Option Entry) (r : Registers) (m : List ℕ) → length (stored_by_entry d r m) ≤ 3
few_by_entry (Some e) r m = few_stored e.instruction e.mode r m
few_by_entry None r m = lit≤ tt

few_by_due : (d : Option ℕ) (r : Registers) (m : List ℕ) → length (stored_by_due d r m) ≤ 3
few_by_due (Some vector) r m = lit≤ tt
few_by_due None r m = few_by_entry (decoded (get_or m r.counter 0)) r m

-- A step stores at most three bytes.
pub at_most_three_stores : (size : ℕ) (lines : Lines) (s : Machine) (m : List ℕ) → length (stores (step size lines s) m) ≤ 3
at_most_three_stores size lines s m =
    rw (step_stores size lines s m)
    (either (Few 3) (eqb size full_memory) _ _
    (either (Few 3) (ltb highest_count s.cycles) _ _ (lit≤ tt) (few_by_due (due lines s) s.registers m))
    (lit≤ tt))
