-- What a step reads and stores to, in one list and in order: the rules' reads (ReadList), then the stores (StoreList). Only two instructions read
-- after they have pushed: BRK its vector, as a served line does, and JSR the high byte of its operand.
use Rattle.std.specs.Prelude.{ℕ, ◌+◌, ◌≡◌, refl, Bool, true, not, cond, ◌&&◌, ◌||◌, List, [], ◌∷◌, ◌++◌, map, T, eqb, ltb, get_or, take, drop, Option, Some, None}
use Rattle.std.proofs.Common.{ap, ap₂, ◌∙◌, append-nil, arith, take-append-drop}
use Rattle.registers.specs.declared.Registers.{Registers}
use Rattle.registers.specs.State.{set_s, up, down}
use Rattle.instruction.specs.declared.Instruction.{Instruction}
use Rattle.instruction.specs.declared.Instruction.TheVariants.{Read, Store, Modify, Branch, Internal, BRK, JMP, JSR, PHA, PHP, PLA, PLP, RTI, RTS}
use Rattle.instruction.specs.declared.ModifyOperation.{ModifyOperation}
use Rattle.instruction.specs.declared.AddressingMode.{AddressingMode}
use Rattle.instruction.specs.declared.AddressingMode.TheVariants.{Accumulator, Implied, Immediate, ZeroPage, ZeroPageX, ZeroPageY, Relative, Absolute, AbsoluteX, AbsoluteY, BuggyIndirect, IndexedIndirectX, IndirectIndexedY}
use Rattle.instruction.specs.declared.Entry.{Entry}
use Rattle.instruction.specs.Opcodes.{rows, decoded}
use Rattle.instruction.specs.Lemmas.Rule.{every_entry}
use Rattle.manual.specs.declared.Lines.{Lines}
use Rattle.manual.specs.declared.Machine.{Machine}
use Rattle.manual.specs.declared.Target.{Target}
use Rattle.manual.specs.Micro.{Micro, read, exec, Access, read_at, store_at, accesses, reads_of, stores_of, ◌>>=◌}
use Rattle.manual.specs.Words.{low_byte}
use Rattle.manual.specs.Addressing.{target}
use Rattle.manual.specs.Stack.{push, pull, push_address, pull_address}
use Rattle.manual.specs.Interrupts.{enter, served, due}
use Rattle.manual.specs.Instructions.{modify, perform}
use Rattle.manual.specs.Stepping.{full_memory, highest_count, act, attend, step_full, step}
use Rattle.manual.specs.ReadList.{addressed, operands, pointers, reached, listed, listed_due}
use Rattle.manual.specs.Lemmas.Programs.{accesses_bind, reads_append, stores_append, alike}
use Rattle.manual.specs.StoreList.{aim, three_pushed, stored_to}

-- which of the two come first
pub data Order : Type 0 where
  reads_first : Order
  stores_first : Order
  stores_second : Order

abbrev pub order_of : Instruction → Order
order_of (Read k) = reads_first
order_of (Store k) = reads_first
order_of (Modify k) = reads_first
order_of (Branch k) = reads_first
order_of (Internal k) = reads_first
order_of JMP = reads_first
order_of JSR = stores_second
order_of RTS = reads_first
order_of RTI = reads_first
order_of PLA = reads_first
order_of PLP = reads_first
order_of PHA = reads_first
order_of PHP = reads_first
order_of BRK = stores_first

abbrev pub in_order : Order → List ℕ → List ℕ → List Access
in_order reads_first l k = map read_at l ++ map store_at k
in_order stores_first l k = map store_at k ++ map read_at l
in_order stores_second l k = map read_at (take 1 l) ++ (map store_at k ++ map read_at (drop 1 l))

abbrev pub accessed : Instruction → AddressingMode → Registers → List ℕ → List Access
accessed i mode r m = in_order (order_of i) (listed i mode r m) (stored_to i mode r m)

abbrev pub accessed_by_entry : Option Entry → Registers → List ℕ → List Access
accessed_by_entry (Some e) r m = accessed e.instruction e.mode r m
accessed_by_entry None r m = []

-- a line that is served pushes, and then reads its vector; otherwise the opcode is read first
abbrev pub accessed_by_due : Option ℕ → Registers → List ℕ → List Access
accessed_by_due (Some vector) r m = in_order stores_first (listed_due (Some vector) r m) (three_pushed r)
accessed_by_due None r m = read_at r.counter ∷ accessed_by_entry (decoded (get_or m r.counter 0)) r m

-- a step refused with 1 or 2 looks at nothing, one refused with 3 at the opcode
abbrev pub accessed_by_step : ℕ → Lines → Machine → List ℕ → List Access
accessed_by_step size lines s m =
    cond (eqb size full_memory) (cond (ltb highest_count s.cycles) [] (accessed_by_due (due lines s) s.registers m)) []

-- ---- which modes suit an instruction

-- the modes told apart by number
abbrev mode_number : AddressingMode → ℕ
mode_number Accumulator = 0
mode_number Implied = 1
mode_number Immediate = 2
mode_number ZeroPage = 3
mode_number ZeroPageX = 4
mode_number ZeroPageY = 5
mode_number Relative = 6
mode_number Absolute = 7
mode_number AbsoluteX = 8
mode_number AbsoluteY = 9
mode_number BuggyIndirect = 10
mode_number IndexedIndirectX = 11
mode_number IndirectIndexedY = 12

abbrev pub is : AddressingMode → AddressingMode → Bool
is a b = eqb (mode_number a) (mode_number b)

-- Only a read takes an immediate operand, and only a modification the accumulator. Only JMP goes through a pointer in any page.
abbrev pub suits : Instruction → AddressingMode → Bool
suits (Read k) mode = not (is mode BuggyIndirect) && (addressed mode || is mode Immediate)
suits (Store k) mode = not (is mode Immediate)
suits (Modify k) mode = not (is mode BuggyIndirect) && (addressed mode || is mode Accumulator)
suits (Branch k) mode = not (is mode Immediate)
suits (Internal k) mode = true
suits JMP mode = not (is mode Immediate)
suits JSR mode = true
suits RTS mode = true
suits RTI mode = true
suits PLA mode = true
suits PLP mode = true
suits PHA mode = true
suits PHP mode = true
suits BRK mode = true

-- every row of the table suits
pub entry_suits : (k : ℕ) (e : Entry) → decoded k ≡ Some e → T (suits e.instruction e.mode)
unfolding rows
entry_suits = every_entry (λ e. suits e.instruction e.mode) tt

-- ---- the definition does exactly this

-- the program p does l
abbrev Accesses : {A : Type 0} → List ℕ → Micro A → List Access → Type 0
Accesses m p l = accesses p m ≡ l

-- a program that goes where the mode leads
aim_accesses : {A : Type 0} (mode : AddressingMode) (f : Target → Micro A) (r : Registers) (m : List ℕ) → T (not (is mode Immediate))
    → accesses (target mode r >>= f) m ≡ map read_at (operands mode r ++ pointers mode r m) ++ accesses (f (exec (target mode r) m).0) m
unfolding accesses target
aim_accesses Accumulator f r m h = refl
aim_accesses Implied f r m h = refl
aim_accesses Immediate f r m h = absurd h
aim_accesses ZeroPage f r m h = refl
aim_accesses ZeroPageX f r m h = refl
aim_accesses ZeroPageY f r m h = refl
aim_accesses Relative f r m h = refl
aim_accesses Absolute f r m h = refl
aim_accesses AbsoluteX f r m h = refl
aim_accesses AbsoluteY f r m h = refl
aim_accesses BuggyIndirect f r m h = refl
aim_accesses IndexedIndirectX f r m h = refl
aim_accesses IndirectIndexedY f r m h = refl

-- and reads there
fetch_accesses : {A : Type 0} (mode : AddressingMode) (k : Target → ℕ → Micro A) (r : Registers) (m : List ℕ)
    → T (not (is mode BuggyIndirect) && (addressed mode || is mode Immediate))
    → accesses (target mode r >>= (λ t. read t.address (k t))) m
    ≡ map read_at (operands mode r ++ pointers mode r m ++ reached mode r m)
    ++ accesses (k (exec (target mode r) m).0 (get_or m (aim mode r m) 0)) m
unfolding accesses target
fetch_accesses Accumulator k r m h = absurd h
fetch_accesses Implied k r m h = absurd h
fetch_accesses Immediate k r m h = refl
fetch_accesses ZeroPage k r m h = refl
fetch_accesses ZeroPageX k r m h = refl
fetch_accesses ZeroPageY k r m h = refl
fetch_accesses Relative k r m h = absurd h
fetch_accesses Absolute k r m h = refl
fetch_accesses AbsoluteX k r m h = refl
fetch_accesses AbsoluteY k r m h = refl
fetch_accesses BuggyIndirect k r m h = absurd h
fetch_accesses IndexedIndirectX k r m h = refl
fetch_accesses IndirectIndexedY k r m h = refl

-- a modification reads and stores there, or is of the accumulator
modify_accesses : (k : ModifyOperation) (mode : AddressingMode) (r : Registers) (m : List ℕ) → T (suits (Modify k) mode)
    → accesses (modify k mode r) m ≡ accessed (Modify k) mode r m
unfolding accesses target modify
modify_accesses k Accumulator r m h = refl
modify_accesses k Implied r m h = absurd h
modify_accesses k Immediate r m h = absurd h
modify_accesses k ZeroPage r m h = refl
modify_accesses k ZeroPageX r m h = refl
modify_accesses k ZeroPageY r m h = refl
modify_accesses k Relative r m h = absurd h
modify_accesses k Absolute r m h = refl
modify_accesses k AbsoluteX r m h = refl
modify_accesses k AbsoluteY r m h = refl
modify_accesses k BuggyIndirect r m h = absurd h
modify_accesses k IndexedIndirectX r m h = refl
modify_accesses k IndirectIndexedY r m h = refl

up_up : (n : ℕ) → up (up n) ≡ low_byte (n + 2)
up_up n = omega arith

up_again : (n : ℕ) → up (low_byte (n + 2)) ≡ low_byte (n + 3)
up_again n = omega arith

down_down : (n : ℕ) → down (down n) ≡ low_byte (n + 254)
down_down n = omega arith

perform_accesses : (i : Instruction) (mode : AddressingMode) (r : Registers) (m : List ℕ) → T (suits i mode)
    → accesses (perform i mode r) m ≡ accessed i mode r m
unfolding accesses perform modify push pull push_address pull_address enter set_s
perform_accesses (Read k) mode r m h = fetch_accesses mode _ r m h
perform_accesses (Store k) mode r m h = aim_accesses mode _ r m h
perform_accesses (Modify k) mode r m h = modify_accesses k mode r m h
perform_accesses (Branch k) mode r m h = aim_accesses mode _ r m h
perform_accesses (Internal k) mode r m h = refl
perform_accesses JMP mode r m h = aim_accesses mode _ r m h
perform_accesses JSR mode r m h = refl
perform_accesses RTS mode r m h = simp up_up
perform_accesses RTI mode r m h = simp (up_up, up_again)
perform_accesses PLA mode r m h = refl
perform_accesses PLP mode r m h = refl
perform_accesses PHA mode r m h = refl
perform_accesses PHP mode r m h = refl
perform_accesses BRK mode r m h = simp down_down

pub act_accesses : (d : Option Entry) (lines : Lines) (s : Machine) (m : List ℕ) → ((e : Entry) → d ≡ Some e → T (suits e.instruction e.mode))
    → accesses (act d lines s) m ≡ accessed_by_entry d s.registers m
unfolding accesses act
act_accesses (Some e) lines s m h =
    accesses_bind (perform e.instruction e.mode s.registers) _ m
    ∙ append-nil _
    ∙ perform_accesses e.instruction e.mode s.registers m (h e refl)
act_accesses None lines s m h = refl

pub attend_accesses : (d : Option ℕ) (lines : Lines) (s : Machine) (m : List ℕ) → accesses (attend d lines s) m ≡ accessed_by_due d s.registers m
unfolding accesses attend served enter push push_address set_s
attend_accesses (Some vector) lines s m = simp down_down
attend_accesses None lines s m =
    let opcode = get_or m s.registers.counter 0 in
    ap (λ (l : List Access). read_at s.registers.counter ∷ l) (act_accesses (decoded opcode) lines s m (entry_suits opcode))

-- A step reads and stores to exactly these addresses, in this order.
pub step_accesses : (size : ℕ) (lines : Lines) (s : Machine) (m : List ℕ) → accesses (step size lines s) m ≡ accessed_by_step size lines s m
unfolding accesses step step_full
step_accesses size lines s m =
    alike (Accesses m) (eqb size full_memory) _ _ _ _
    (alike (Accesses m) (ltb highest_count s.cycles) _ _ _ _ refl (attend_accesses (due lines s) lines s m))
    refl

-- ---- the reads and the stores of such a list

reads_of_reads : (l : List ℕ) → reads_of (map read_at l) ≡ l
reads_of_reads [] = refl
reads_of_reads (p ∷ l) = ap (λ (t : List ℕ). p ∷ t) (reads_of_reads l)

reads_of_stores : (l : List ℕ) → reads_of (map store_at l) ≡ []
reads_of_stores [] = refl
reads_of_stores (p ∷ l) = reads_of_stores l

stores_of_reads : (l : List ℕ) → stores_of (map read_at l) ≡ []
stores_of_reads [] = refl
stores_of_reads (p ∷ l) = stores_of_reads l

stores_of_stores : (l : List ℕ) → stores_of (map store_at l) ≡ l
stores_of_stores [] = refl
stores_of_stores (p ∷ l) = ap (λ (t : List ℕ). p ∷ t) (stores_of_stores l)

-- the reads and the stores if the stores come first
reads_after : (l k : List ℕ) → reads_of (map store_at k ++ map read_at l) ≡ l
reads_after l k = reads_append (map store_at k) (map read_at l) ∙ rw (reads_of_stores k, reads_of_reads l)

stores_before : (l k : List ℕ) → stores_of (map store_at k ++ map read_at l) ≡ k
stores_before l k = stores_append (map store_at k) (map read_at l) ∙ rw (stores_of_stores k, stores_of_reads l) (append-nil k)

pub reads_in_order : (o : Order) (l k : List ℕ) → reads_of (in_order o l k) ≡ l
reads_in_order reads_first l k = reads_append (map read_at l) (map store_at k) ∙ rw (reads_of_reads l, reads_of_stores k) (append-nil l)
reads_in_order stores_first l k = reads_after l k
reads_in_order stores_second l k =
    reads_append (map read_at (take 1 l)) _
    ∙ ap₂ (λ (s t : List ℕ). s ++ t) (reads_of_reads (take 1 l)) (reads_after (drop 1 l) k)
    ∙ take-append-drop 1 l

pub stores_in_order : (o : Order) (l k : List ℕ) → stores_of (in_order o l k) ≡ k
stores_in_order reads_first l k = stores_append (map read_at l) (map store_at k) ∙ rw (stores_of_reads l, stores_of_stores k)
stores_in_order stores_first l k = stores_before l k
stores_in_order stores_second l k =
    stores_append (map read_at (take 1 l)) _
    ∙ ap₂ (λ (s t : List ℕ). s ++ t) (stores_of_reads (take 1 l)) (stores_before (drop 1 l) k)
