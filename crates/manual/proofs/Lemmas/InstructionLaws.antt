-- What an instruction gives, from what its parts give: the laws that the code's proofs cite.
use Rattle.std.specs.Prelude.{ℕ, ◌+◌, ◌≡◌, true, List, get_or, set}
use Rattle.std.proofs.Math.Path.{refl}
use Rattle.std.proofs.Common.{eq-eqb, ne_eqb}
use Rattle.registers.specs.declared.Registers.{Registers}
use Rattle.registers.specs.StatusByte.{bit, pushed_byte, served_byte, pulled_status}
use Rattle.registers.specs.State.{set_a, set_pc, set_status, set_i, flags}
use Rattle.instruction.specs.declared.Instruction.TheVariants.{Read, Store, Modify, Branch, BRK, JMP, JSR, PHA, PHP, PLA, PLP, RTI, RTS}
use Rattle.instruction.specs.declared.ReadOperation.{ReadOperation}
use Rattle.instruction.specs.declared.StoreOperation.{StoreOperation}
use Rattle.instruction.specs.declared.ModifyOperation.{ModifyOperation}
use Rattle.instruction.specs.declared.BranchOperation.{BranchOperation}
use Rattle.instruction.specs.declared.AddressingMode.{AddressingMode}
use Rattle.instruction.specs.Modes.{operand_bytes}
use Rattle.manual.specs.declared.Target.{Target}
use Rattle.manual.specs.Micro.{done, Gives}
use Rattle.manual.specs.Words.{low_byte, address_of, page, joined}
use Rattle.manual.specs.Branching.{holds, branched}
use Rattle.manual.specs.Addressing.{operand, target}
use Rattle.manual.specs.Flags.{load_a}
use Rattle.manual.specs.Stack.{push, pull, push_address, pull_address}
use Rattle.manual.specs.Shifting.{modified, modified_flags}
use Rattle.manual.specs.Interrupts.{irq_vector, enter, served}
use Rattle.manual.specs.Instructions.{applied, stored, advanced, modify, perform}
use Rattle.manual.specs.Outcomes.{leaves_at, leaves}
use Rattle.manual.specs.Lemmas.Programs.{then}

-- ---- the stack

pub push_address_gives : (p : ℕ) (r : Registers) (m : List ℕ) {r₁ r₂ : Registers} {m₁ m₂ : List ℕ}
    → Gives (push (page p) r) m r₁ m₁ → Gives (push (low_byte p) r₁) m₁ r₂ m₂ → Gives (push_address p r) m r₂ m₂
unfolding push_address
push_address_gives p r m e f = then (push (page p) r) _ m e f

pub pull_address_gives : (r : Registers) (m : List ℕ) {l h : ℕ} {r₁ r₂ : Registers}
    → Gives (pull r) m (l, r₁) m → Gives (pull r₁) m (h, r₂) m → Gives (pull_address r) m (joined h l, r₂) m
unfolding pull_address
pull_address_gives r m {r₁ = r₁} e f = then (pull r) _ m e (then (pull r₁) _ m f refl)

-- ---- interrupts

pub enter_gives : (back b vector : ℕ) (r : Registers) (m : List ℕ) {r₁ r₂ : Registers} {m₁ m₂ : List ℕ} → Gives (push_address back r) m r₁ m₁
    → Gives (push b r₁) m₁ r₂ m₂
    → Gives (enter back b vector r) m (set_pc (joined (get_or m₂ (vector + 1) 0) (get_or m₂ vector 0)) (flags (set_i true) r₂)) m₂
unfolding enter
enter_gives back b vector r m {r₁ = r₁} {m₁ = m₁} e f = then (push_address back r) _ m e (then (push b r₁) _ m₁ f refl)

pub served_gives : (vector : ℕ) (r : Registers) (m : List ℕ) {r₁ : Registers} {m₁ : List ℕ}
    → Gives (enter r.counter (served_byte r.status) vector r) m r₁ m₁ → Gives (served vector r) m r₁ m₁
unfolding served
served_gives vector r m e = e

-- ---- where the mode leads

module _ (mode : AddressingMode) (r : Registers) (m : List ℕ) (t : Target) (e : Gives (target mode r) m t m) where
  pub read_gives : (k : ReadOperation) → Gives (perform (Read k) mode r) m (leaves_at t.first (applied k (get_or m t.address 0) (advanced mode r)) (bit t.crossed)) m
  unfolding perform
  read_gives k = then (target mode r) _ m e refl

  pub store_gives : (k : StoreOperation) → Gives (perform (Store k) mode r) m (leaves_at t.first (advanced mode r) 0) (set m t.address (stored k r))
  unfolding perform
  store_gives k = then (target mode r) _ m e refl

  pub modify_memory_gives : (k : ModifyOperation) → (operand_bytes mode ≡ 0 → ⊥)
      → Gives (modify k mode r) m (leaves_at t.first (modified_flags k (get_or m t.address 0) (advanced mode r)) 0)
      (set m t.address (modified k (get_or m t.address 0) r.status.carry))
  unfolding modify
  modify_memory_gives k f = simp (ne_eqb _ _ f) (then (target mode r) _ m e refl)

  pub branch_gives : (k : BranchOperation) → Gives (perform (Branch k) mode r) m (branched (holds k r.status) t (advanced mode r)) m
  unfolding perform
  branch_gives k = then (target mode r) _ m e refl

  pub jump_gives : Gives (perform JMP mode r) m (leaves_at t.first (set_pc t.address r) 0) m
  unfolding perform
  jump_gives = then (target mode r) _ m e refl

-- ---- the rest

-- with no operand byte nothing is read and nothing stored
pub modify_accumulator_done : (k : ModifyOperation) (mode : AddressingMode) (r : Registers) → operand_bytes mode ≡ 0
    → perform (Modify k) mode r
    ≡ done (leaves (set_a (modified k r.accumulator r.status.carry) (modified_flags k r.accumulator (advanced mode r))) 0)
unfolding perform modify
modify_accumulator_done k mode r e = simp (eq-eqb _ _ e)

module _ (mode : AddressingMode) (r : Registers) (m : List ℕ) where
  -- the high byte is what stands there after the pushes
  pub call_gives : {r₁ : Registers} {m₁ : List ℕ} → Gives (push_address (operand r 2) r) m r₁ m₁
      → let goal = joined (get_or m₁ (operand r 2) 0) (get_or m (operand r 1) 0) in Gives (perform JSR mode r) m (leaves_at goal (set_pc goal r₁) 0) m₁
  unfolding perform
  call_gives e = then (push_address (operand r 2) r) _ m e refl

  pub return_gives : {p : ℕ} {r₁ : Registers} → Gives (pull_address r) m (p, r₁) m
      → Gives (perform RTS mode r) m (leaves (set_pc (address_of (p + 1)) r₁) 0) m
  unfolding perform
  return_gives e = then (pull_address r) _ m e refl

  pub push_accumulator_gives : {r₁ : Registers} {m₁ : List ℕ} → Gives (push r.accumulator r) m r₁ m₁
      → Gives (perform PHA mode r) m (leaves (advanced mode r₁) 0) m₁
  unfolding perform
  push_accumulator_gives e = then (push r.accumulator r) _ m e refl

  pub push_status_gives : {r₁ : Registers} {m₁ : List ℕ} → Gives (push (pushed_byte r.status) r) m r₁ m₁
      → Gives (perform PHP mode r) m (leaves (advanced mode r₁) 0) m₁
  unfolding perform
  push_status_gives e = then (push (pushed_byte r.status) r) _ m e refl

  pub pull_accumulator_gives : {b : ℕ} {r₁ : Registers} → Gives (pull r) m (b, r₁) m
      → Gives (perform PLA mode r) m (leaves (load_a b (advanced mode r₁)) 0) m
  unfolding perform
  pull_accumulator_gives e = then (pull r) _ m e refl

  pub pull_status_gives : {b : ℕ} {r₁ : Registers} → Gives (pull r) m (b, r₁) m
      → Gives (perform PLP mode r) m (leaves (set_status (pulled_status b) (advanced mode r₁)) 0) m
  unfolding perform
  pull_status_gives e = then (pull r) _ m e refl

  pub break_gives : {r₁ : Registers} {m₁ : List ℕ} → Gives (enter (operand r 2) (pushed_byte r.status) irq_vector r) m r₁ m₁
      → Gives (perform BRK mode r) m (leaves r₁ 0) m₁
  unfolding perform
  break_gives e = then (enter (operand r 2) (pushed_byte r.status) irq_vector r) _ m e refl

  pub return_from_interrupt_gives : {b p : ℕ} {r₁ r₂ : Registers} → Gives (pull r) m (b, r₁) m → Gives (pull_address r₁) m (p, r₂) m
      → Gives (perform RTI mode r) m (leaves (set_pc p (set_status (pulled_status b) r₂)) 0) m
  unfolding perform
  return_from_interrupt_gives {r₁ = r₁} e f = then (pull r) _ m e (then (pull_address r₁) _ m f refl)
