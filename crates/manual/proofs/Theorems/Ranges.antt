-- From registers and bytes in range every step and every run leaves them in range. A step adds at most 7 to the cycle count. (That the
-- memory stays as long as it was is `exec_length` of Programs.)
use Rattle.std.specs.Prelude.{ℕ, zero, suc, ◌+◌, ◌*◌, ◌≤◌, ◌<◌, ◌≡◌, refl, Bool, true, false, not, cond, ◌&&◌, List, eqb, leb, Option, Some, None}
use Rattle.std.proofs.Common.{ap, arith, lit<, lit≤}
use Rattle.std.proofs.Math.Dec.{ltb}
use Rattle.registers.specs.declared.Registers.{Registers}
use Rattle.registers.specs.StatusByte.{pushed_byte, served_byte}
use Rattle.registers.specs.Theorems.RoundTrip.{bit_most, pushed_byte_lem}
use Rattle.instruction.specs.declared.Instruction.{Instruction}
use Rattle.instruction.specs.declared.Instruction.TheVariants.{Read, Store, Modify, Branch, Internal, BRK, JMP, JSR, PHA, PHP, PLA, PLP, RTI, RTS}
use Rattle.instruction.specs.declared.ModifyOperation.{ModifyOperation}
use Rattle.instruction.specs.declared.AddressingMode.{AddressingMode}
use Rattle.instruction.specs.declared.AddressingMode.TheVariants.{Accumulator, Implied, Immediate, ZeroPage, ZeroPageX, ZeroPageY, Relative, Absolute, AbsoluteX, AbsoluteY, BuggyIndirect, IndexedIndirectX, IndirectIndexedY}
use Rattle.instruction.specs.declared.Entry.{Entry}
use Rattle.instruction.specs.Modes.{operand_bytes}
use Rattle.instruction.specs.Opcodes.{decoded}
use Rattle.instruction.specs.Theorems.Table.{most_extra, Ruled, table_rules}
use Rattle.manual.specs.declared.Lines.{Lines}
use Rattle.manual.specs.declared.Machine.{Machine}
use Rattle.manual.specs.declared.Target.{Target}
use Rattle.manual.specs.declared.Effect.{Effect}
use Rattle.manual.specs.Micro.{Micro, done, exec}
use Rattle.manual.specs.Words.{low_byte, page}
use Rattle.manual.specs.Branching.{branch_target, branched, holds}
use Rattle.manual.specs.Addressing.{operand, target}
use Rattle.manual.specs.Stack.{push, pull, push_address, pull_address}
use Rattle.manual.specs.Interrupts.{irq_vector, enter, served, due}
use Rattle.manual.specs.Instructions.{modify, perform}
use Rattle.manual.specs.declared.Stepped.{Stepped}
use Rattle.manual.specs.declared.Ended.{Ended}
use Rattle.manual.specs.declared.Reason.{Reason}
use Rattle.manual.specs.Outcomes.{is_made, ended}
use Rattle.manual.specs.Stepping.{full_memory, highest_count, highest_bound, act, attend, step_full, step, run_while, on_full, bounded, run_full, run, long_run, spend_full, run_cycles}
use Rattle.manual.specs.Theorems.Within.{Within, Bytes, InMemory, within_exec, within_bind, within_weaken, within_memory}
use Rattle.registers.specs.InRange.{InRange}
use Rattle.manual.proofs.Lemmas.RegistersInRange.{in_set_a, in_set_s, in_set_pc, in_set_status, in_flags, in_advanced, in_load_a, in_applied, in_stored, in_modified, in_modified_flags, in_internal, in_around}
use Rattle.manual.specs.Lemmas.Programs.{either}
use Rattle.manual.proofs.Theorems.Answers.{not_quiet}

abbrev Aimed : Target → Type 0
Aimed t = (t.address < 65536) × (t.first < 65536)

target_within : (mode : AddressingMode) (r : Registers) → InRange r → Within Aimed (target mode r)
unfolding target branch_target
target_within Accumulator r h = omega arith
target_within Implied r h = omega arith
target_within Immediate r h = omega arith
target_within ZeroPage r h = (omega arith, λ b l. omega arith)
target_within ZeroPageX r h = (omega arith, λ b l. omega arith)
target_within ZeroPageY r h = (omega arith, λ b l. omega arith)
target_within Relative r h = (omega arith, λ b l. (in_around _, lit< tt))
target_within Absolute r h = (omega arith, λ b l. (omega arith, λ c k. omega arith))
target_within AbsoluteX r h = (omega arith, λ b l. (omega arith, λ c k. omega arith))
target_within AbsoluteY r h = (omega arith, λ b l. (omega arith, λ c k. omega arith))
target_within BuggyIndirect r h = (omega arith, λ b l. (omega arith, λ c k. (omega arith, λ d i. (omega arith, λ e j. omega arith))))
target_within IndexedIndirectX r h = (omega arith, λ b l. (omega arith, λ c k. (omega arith, λ d i. omega arith)))
target_within IndirectIndexedY r h = (omega arith, λ b l. (omega arith, λ c k. (omega arith, λ d i. omega arith)))

push_within : (b : ℕ) (r : Registers) → b < 256 → InRange r → Within InRange (push b r)
unfolding push
push_within b r l h = (omega (arith, h.stack), l, in_set_s r h _ (omega arith))

-- a pulled value below a bound, and registers in range
abbrev Pulled : ℕ → ℕ × Registers → Type 0
Pulled bound w = (w.0 < bound) × InRange w.1

pull_within : (r : Registers) → InRange r → Within (Pulled 256) (pull r)
unfolding pull
pull_within r h = (omega arith, λ b l. (l, in_set_s r h _ (omega arith)))

push_address_within : (p : ℕ) (r : Registers) → p < 65536 → InRange r → Within InRange (push_address p r)
unfolding push_address
push_address_within p r l h =
    within_bind InRange InRange (push (page p) r) _ (push_within (page p) r (omega arith) h) (λ r₁ h₁. push_within (low_byte p) r₁ (omega arith) h₁)

pull_address_within : (r : Registers) → InRange r → Within (Pulled 65536) (pull_address r)
unfolding pull_address
pull_address_within r h =
    within_bind (Pulled 256) (Pulled 65536) (pull r) _ (pull_within r h)
    (λ v hv. within_bind (Pulled 256) (Pulled 65536) (pull v.1) _ (pull_within v.1 hv.1) (λ w hw. (omega (arith, hv.0, hw.0), hw.1)))

-- the way into an interrupt, through a vector of the memory
enter_within : (back b vector : ℕ) (r : Registers) → back < 65536 → b < 256 → vector + 1 < 65536 → InRange r
    → Within InRange (enter back b vector r)
unfolding enter
enter_within back b vector r l i v h =
    within_bind InRange InRange (push_address back r) _ (push_address_within back r l h)
    (λ r₁ h₁. within_bind InRange InRange (push b r₁) _ (push_within b r₁ i h₁)
    (λ r₂ h₂. (omega arith, λ d j. (v, λ e k. in_set_pc _ (in_flags r₂ h₂ _) _ (omega arith)))))

served_within : (vector : ℕ) (r : Registers) → vector + 1 < 65536 → InRange r → Within InRange (served vector r)
unfolding served
served_within vector r v h = enter_within r.counter (served_byte r.status) vector r h.counter (pushed_byte_lem false r.status) v h

-- an effect in range, with at most so many extra cycles, and a first address
abbrev pub Ranged : ℕ → Effect → Type 0
Ranged most f = InRange f.registers × (f.extra ≤ most) × (f.first < 65536)

branched_within : (t : Bool) (a : Target) (r : Registers) → Aimed a → InRange r → Ranged 2 (branched t a r)
unfolding branched
branched_within true a r l h = (in_set_pc r h _ l.0, omega (arith, bit_most a.crossed), lit< tt)
branched_within false a r l h = (h, omega arith, lit< tt)

modify_within : (k : ModifyOperation) (mode : AddressingMode) (r : Registers) → InRange r → Within (Ranged 0) (modify k mode r)
unfolding modify
modify_within k mode r h =
    either (Within (Ranged 0)) (eqb (operand_bytes mode) 0) _ _
    (in_set_a _ (in_modified_flags k _ _ (in_advanced r h mode)) _ (in_modified k _ _ h.accumulator), lit≤ tt, lit< tt)
    (within_bind Aimed (Ranged 0) (target mode r) _ (target_within mode r h)
    (λ t l. (l.0, λ b j. (l.0, in_modified k b _ j, (in_modified_flags k b _ (in_advanced r h mode), lit≤ tt, l.1)))))

perform_within : (i : Instruction) (mode : AddressingMode) (r : Registers) → InRange r → Within (Ranged (most_extra i)) (perform i mode r)
unfolding perform
perform_within (Read k) mode r h =
    within_bind Aimed (Ranged 1) (target mode r) _ (target_within mode r h)
    (λ t l. (l.0, λ b j. (in_applied k b _ (in_advanced r h mode) j, bit_most t.crossed, l.1)))
perform_within (Store k) mode r h =
    within_bind Aimed (Ranged 0) (target mode r) _ (target_within mode r h)
    (λ t l. (l.0, in_stored k r h, (in_advanced r h mode, lit≤ tt, l.1)))
perform_within (Modify k) mode r h = modify_within k mode r h
perform_within (Branch k) mode r h =
    within_bind Aimed (Ranged 2) (target mode r) _ (target_within mode r h)
    (λ t l. branched_within (holds k r.status) t _ l (in_advanced r h mode))
perform_within (Internal k) mode r h = (in_internal k _ (in_advanced r h mode), lit≤ tt, lit< tt)
perform_within JMP mode r h =
    within_bind Aimed (Ranged 0) (target mode r) _ (target_within mode r h) (λ t l. (in_set_pc r h _ l.0, lit≤ tt, l.1))
perform_within JSR mode r h = (
  omega arith,
  λ b l.
      within_bind InRange (Ranged 0) (push_address (operand r 2) r) _ (push_address_within _ r (omega arith) h)
      (λ r₁ h₁. (omega arith, λ c k. (in_set_pc r₁ h₁ _ (omega arith), lit≤ tt, omega arith))),
)
perform_within RTS mode r h =
    within_bind (Pulled 65536) (Ranged 0) (pull_address r) _ (pull_address_within r h)
    (λ w hw. (in_set_pc w.1 hw.1 _ (omega arith), lit≤ tt, lit< tt))
perform_within PHA mode r h =
    within_bind InRange (Ranged 0) (push r.accumulator r) _ (push_within _ r h.accumulator h) (λ r₁ h₁. (in_advanced r₁ h₁ mode, lit≤ tt, lit< tt))
perform_within PHP mode r h =
    within_bind InRange (Ranged 0) (push (pushed_byte r.status) r) _ (push_within _ r (pushed_byte_lem true r.status) h)
    (λ r₁ h₁. (in_advanced r₁ h₁ mode, lit≤ tt, lit< tt))
perform_within PLA mode r h =
    within_bind (Pulled 256) (Ranged 0) (pull r) _ (pull_within r h)
    (λ w hw. (in_load_a _ (in_advanced w.1 hw.1 mode) _ hw.0, lit≤ tt, lit< tt))
perform_within PLP mode r h =
    within_bind (Pulled 256) (Ranged 0) (pull r) _ (pull_within r h)
    (λ w hw. (in_set_status _ (in_advanced w.1 hw.1 mode) _, lit≤ tt, lit< tt))
perform_within BRK mode r h =
    within_bind InRange (Ranged 0) (enter (operand r 2) (pushed_byte r.status) irq_vector r) _
    (enter_within _ _ irq_vector r (omega arith) (pushed_byte_lem true r.status) (lit< tt) h)
    (λ r₁ h₁. (h₁, lit≤ tt, lit< tt))
perform_within RTI mode r h =
    within_bind (Pulled 256) (Ranged 0) (pull r) _ (pull_within r h)
    (λ v hv. within_bind (Pulled 65536) (Ranged 0) (pull_address v.1) _ (pull_address_within v.1 hv.1)
    (λ w hw. (in_set_pc _ (in_set_status w.1 hw.1 _) _ hw.0, lit≤ tt, lit< tt)))

-- ---- a step and a run

-- registers in range, and a cycle count at most so many on from another
pub record MachineInRange (from most : ℕ) (s : Machine) : Type 0 where
  pub registers : InRange s.registers
  pub cycles : s.cycles ≤ from + most

-- the cycles that a step may add: 7 if it was made, none if it was refused
abbrev pub allowance : Reason → ℕ
allowance reason = cond (is_made reason) 7 0

abbrev pub StepInRange : ℕ → Stepped → Type 0
StepInRange from q = MachineInRange from (allowance q.reason) q.machine × (q.first < 65536)

unmoved : (from : ℕ) (s : Machine) → InRange s.registers → s.cycles ≤ from → MachineInRange from 0 s × (0 < 65536)
unmoved from s h l = (record { registers = h; cycles = omega arith }, lit< tt)

act_within : (d : Option Entry) (lines : Lines) (s : Machine) → InRange s.registers
    → ((e : Entry) → d ≡ Some e → Ruled e)
    → Within (StepInRange s.cycles) (act d lines s)
unfolding act
act_within (Some e) lines s h c =
    within_bind (Ranged (most_extra e.instruction)) (StepInRange s.cycles) (perform e.instruction e.mode s.registers) _
    (perform_within e.instruction e.mode s.registers h)
    (λ f l. (record { registers = l.0; cycles = omega (arith, l.1, (c e refl).total_most) }, l.2))
act_within None lines s h c = unmoved s.cycles s h (omega arith)

attend_within : (d : Option ℕ) (lines : Lines) (s : Machine) → InRange s.registers → ((vector : ℕ) → d ≡ Some vector → vector + 1 < 65536)
    → Within (StepInRange s.cycles) (attend d lines s)
unfolding attend
attend_within (Some vector) lines s h v =
    within_bind InRange (StepInRange s.cycles) (served vector s.registers) _ (served_within vector s.registers (v vector refl) h)
    (λ r l. (record { registers = l; cycles = omega arith }, lit< tt))
attend_within None lines s h v = (h.counter, λ b l. act_within (decoded b) lines s h (table_rules.ruled b))

-- both vectors are of the memory
pub vector_within : (lines : Lines) (s : Machine) (vector : ℕ) → due lines s ≡ Some vector → vector + 1 < 65536
vector_within lines s =
    either Low (s.nmi && not lines.nmi) _ _ (λ v e. low v _ e (lit< tt))
    (either Low (not lines.irq && not s.registers.status.disable) _ _ (λ v e. low v _ e (lit< tt)) (λ v e. absurd (not_quiet _ v refl e)))
  where
    Low : Option ℕ → Type 0
    Low d = (vector : ℕ) → d ≡ Some vector → vector + 1 < 65536

    of : Option ℕ → ℕ
    of (Some v) = v
    of None = 0

    low : (v w : ℕ) → Some w ≡ Some v → w + 1 < 65536 → v + 1 < 65536
    low v w e l = let same : w ≡ v = ap of e in omega arith

step_full_within : (lines : Lines) (s : Machine) → InRange s.registers → Within (StepInRange s.cycles) (step_full lines s)
unfolding step_full
step_full_within lines s h =
    either (Within (StepInRange s.cycles)) (ltb highest_count s.cycles) _ _
    (unmoved s.cycles s h (omega arith))
    (attend_within (due lines s) lines s h (vector_within lines s))

step_within : (size : ℕ) (lines : Lines) (s : Machine) → InRange s.registers → Within (StepInRange s.cycles) (step size lines s)
unfolding step
step_within size lines s h = either (Within (StepInRange s.cycles)) (eqb size full_memory) _ _ (step_full_within lines s h) (unmoved s.cycles s h (omega arith))

-- A step from registers and bytes in range leaves them in range. It adds at most 7 to the cycle count, and nothing if it is refused.
pub step_ranges : (size : ℕ) (lines : Lines) (s : Machine) (m : List ℕ) → InRange s.registers → Bytes m
    → StepInRange s.cycles (exec (step size lines s) m).0 × Bytes (exec (step size lines s) m).1
step_ranges size lines s m h b = within_exec (StepInRange s.cycles) (step size lines s) m (step_within size lines s h) b

-- registers in range, and at most 7 cycles for each of the steps made after k
abbrev pub RunInRange : ℕ → ℕ → Ended → Type 0
RunInRange from k q = InRange q.machine.registers × (q.machine.cycles + 7 * k ≤ from + 7 * q.steps)

while_within : (goes : Machine → Bool) (n k : ℕ) (lines : Lines) (s : Machine) → InRange s.registers
    → Within (RunInRange s.cycles k) (run_while goes n k lines s)
unfolding run_while
while_within goes zero k lines s h = (h, omega arith)
while_within goes (suc n) k lines s h =
    either (Within (RunInRange s.cycles k)) (goes s) _ _
    (within_bind (StepInRange s.cycles) (RunInRange s.cycles k) (step_full lines s) _ (step_full_within lines s h)
    (λ q l. go (is_made q.reason) q.reason q.machine l.0 (while_within goes n (k + 1) lines q.machine l.0.registers)))
    (h, omega arith)
  where
    go : (t : Bool) (a : Reason) (q : Machine) → MachineInRange s.cycles (cond t 7 0) q → Within (RunInRange q.cycles (k + 1)) (run_while goes n (k + 1) lines q)
        → Within (RunInRange s.cycles k) (cond t (run_while goes n (k + 1) lines q) (done (ended a k q)))
    go true a q l w =
        within_weaken (RunInRange q.cycles (k + 1)) (RunInRange s.cycles k) (run_while goes n (k + 1) lines q)
        (λ f g. (g.0, omega (arith, g.1, l.cycles)))
        w
    go false a q l w = (l.registers, omega (arith, l.cycles))

module _ (s : Machine) (h : InRange s.registers) (p : Micro Ended) (w : Within (RunInRange s.cycles 0) p) where
  on_full_within : (size : ℕ) → Within (RunInRange s.cycles 0) (on_full size s p)
  on_full_within size = either (Within (RunInRange s.cycles 0)) (eqb size full_memory) _ _ w (h, omega arith)

  bounded_within : (bound : ℕ) → Within (RunInRange s.cycles 0) (bounded bound s p)
  bounded_within bound = either (Within (RunInRange s.cycles 0)) (leb bound highest_bound) _ _ w (h, omega arith)

module _ (size bound : ℕ) (lines : Lines) (s : Machine) (m : List ℕ) (h : InRange s.registers) (b : Bytes m) where
  run_within : Within (RunInRange s.cycles 0) (run size bound lines s)
  unfolding run run_full
  run_within = on_full_within s h _ (bounded_within s h _ (while_within (λ s. true) bound 0 lines s h) bound) size

  long_run_within : Within (RunInRange s.cycles 0) (long_run size bound lines s)
  unfolding long_run run_full
  long_run_within = on_full_within s h _ (while_within (λ s. true) bound 0 lines s h) size

  run_cycles_within : Within (RunInRange s.cycles 0) (run_cycles size bound lines s)
  unfolding run_cycles spend_full
  run_cycles_within = on_full_within s h _ (bounded_within s h _ (while_within (λ t. ltb t.cycles (s.cycles + bound)) bound 0 lines s h) bound) size

  -- A run does the same, and adds at most 7 cycles for each step that it made; so do one of any number of steps and one by cycles.
  pub run_ranges : RunInRange s.cycles 0 (exec (run size bound lines s) m).0 × Bytes (exec (run size bound lines s) m).1
  run_ranges = within_exec (RunInRange s.cycles 0) (run size bound lines s) m run_within b

  pub long_run_ranges : RunInRange s.cycles 0 (exec (long_run size bound lines s) m).0 × Bytes (exec (long_run size bound lines s) m).1
  long_run_ranges = within_exec (RunInRange s.cycles 0) (long_run size bound lines s) m long_run_within b

  pub run_cycles_ranges : RunInRange s.cycles 0 (exec (run_cycles size bound lines s) m).0 × Bytes (exec (run_cycles size bound lines s) m).1
  run_cycles_ranges = within_exec (RunInRange s.cycles 0) (run_cycles size bound lines s) m run_cycles_within b

  -- Every address that a run reads or stores to is one of the memory's.
  pub run_in_memory : InMemory (run size bound lines s) m
  run_in_memory = within_memory (RunInRange s.cycles 0) (run size bound lines s) m run_within b

  pub long_run_in_memory : InMemory (long_run size bound lines s) m
  long_run_in_memory = within_memory (RunInRange s.cycles 0) (long_run size bound lines s) m long_run_within b

  pub run_cycles_in_memory : InMemory (run_cycles size bound lines s) m
  run_cycles_in_memory = within_memory (RunInRange s.cycles 0) (run_cycles size bound lines s) m run_cycles_within b

-- Every address that a step reads or stores to is one of the memory's.
pub step_in_memory : (size : ℕ) (lines : Lines) (s : Machine) (m : List ℕ) → InRange s.registers → Bytes m → InMemory (step size lines s) m
step_in_memory size lines s m h b = within_memory (StepInRange s.cycles) (step size lines s) m (step_within size lines s h) b
