-- The 56 instructions: what each reads, stores and leaves in the registers, and the cycles that it adds to its base.
use Rattle.std.specs.Prelude.{ℕ, ◌+◌, cond, eqb}
use Rattle.std.specs.Int.Bits.{bit_and, bit_or, bit_xor}
use Rattle.registers.specs.declared.Registers.{Registers}
use Rattle.registers.specs.StatusByte.{bit, pushed_byte, pulled_status}
use Rattle.instruction.specs.declared.Instruction.{Instruction}
use Rattle.instruction.specs.declared.Instruction.TheVariants.{Read, Store, Modify, Branch, Internal, BRK, JMP, JSR, PHA, PHP, PLA, PLP, RTI, RTS}
use Rattle.instruction.specs.declared.ReadOperation.{ReadOperation}
use Rattle.instruction.specs.declared.ReadOperation.TheVariants.{ADC, AND, BIT, CMP, CPX, CPY, EOR, LDA, LDX, LDY, ORA, SBC}
use Rattle.instruction.specs.declared.StoreOperation.{StoreOperation}
use Rattle.instruction.specs.declared.StoreOperation.TheVariants.{STA, STX, STY}
use Rattle.instruction.specs.declared.ModifyOperation.{ModifyOperation}
use Rattle.instruction.specs.declared.AddressingMode.{AddressingMode}
use Rattle.instruction.specs.Modes.{operand_bytes}
use Rattle.manual.specs.declared.ArithmeticOutput.{ArithmeticOutput}
use Rattle.manual.specs.declared.Effect.{Effect}
use Rattle.manual.specs.Micro.{Micro, done, ◌>>=◌, ◌>>◌, fetch, store}
use Rattle.manual.specs.Words.{address_of, joined}
use Rattle.manual.specs.Outcomes.{leaves_at, leaves}
use Rattle.registers.specs.State.{set_a, set_pc, set_v, set_c, set_status, flags}
use Rattle.manual.specs.Arithmetic.{binary_sum, binary_difference}
use Rattle.manual.specs.Decimal.{decimal_sum, decimal_difference}
use Rattle.manual.specs.Flags.{load_a, load_x, load_y}
use Rattle.manual.specs.Branching.{compared, tested, holds, branched}
use Rattle.manual.specs.Addressing.{operand, target}
use Rattle.manual.specs.Internal.{internal}
use Rattle.manual.specs.Stack.{push, pull, push_address, pull_address}
use Rattle.manual.specs.Interrupts.{irq_vector, enter}
use Rattle.manual.specs.Shifting.{modified, modified_flags}

-- ADC and SBC, decimal if D is set (chapter 2)
unfoldable pub sum : ℕ → Registers → ArithmeticOutput
sum m r =
    cond r.status.decimal (decimal_sum r.accumulator m r.status.carry) (binary_sum r.accumulator m r.status.carry)

unfoldable pub difference : ℕ → Registers → ArithmeticOutput
difference m r =
    cond r.status.decimal (decimal_difference r.accumulator m r.status.carry) (binary_difference r.accumulator m r.status.carry)

-- what they leave: N and Z are those of the result, in decimal mode too (the Rust's part of Decimal)
unfoldable pub with_output : ArithmeticOutput → Registers → Registers
with_output o r = load_a o.result (flags (λ p. set_v o.overflow (set_c o.carry p)) r)

-- an operation applied to a byte that was read (chapters 2, 4 and 7)
unfoldable pub applied : ReadOperation → ℕ → Registers → Registers
applied ADC m r = with_output (sum m r) r
applied SBC m r = with_output (difference m r) r
applied AND m r = load_a (bit_and r.accumulator m) r
applied ORA m r = load_a (bit_or r.accumulator m) r
applied EOR m r = load_a (bit_xor r.accumulator m) r
applied LDA m r = load_a m r
applied LDX m r = load_x m r
applied LDY m r = load_y m r
applied CMP m r = compared r.accumulator m r
applied CPX m r = compared r.x m r
applied CPY m r = compared r.y m r
applied BIT m r = tested m r

-- the register that is stored
abbrev pub stored : StoreOperation → Registers → ℕ
stored STA r = r.accumulator
stored STX r = r.x
stored STY r = r.y

-- the counter past the instruction
abbrev pub advanced : AddressingMode → Registers → Registers
advanced mode r = set_pc (operand r (1 + operand_bytes mode)) r

-- chapter 10: with no operand byte it is the accumulator that is modified
unfoldable pub modify : ModifyOperation → AddressingMode → Registers → Micro Effect
modify k mode r =
    cond (eqb (operand_bytes mode) 0)
    (done (leaves (set_a (modified k r.accumulator r.status.carry) (modified_flags k r.accumulator (advanced mode r))) 0))
    (do
      t ← target mode r
      b ← fetch t.address
      store t.address (modified k b r.status.carry)
      done (leaves_at t.first (modified_flags k b (advanced mode r)) 0))

unfoldable pub perform : Instruction → AddressingMode → Registers → Micro Effect
perform (Read k) mode r = do
  t ← target mode r
  b ← fetch t.address
  done (leaves_at t.first (applied k b (advanced mode r)) (bit t.crossed))
perform (Store k) mode r = do
  t ← target mode r
  store t.address (stored k r)
  done (leaves_at t.first (advanced mode r) 0)
perform (Modify k) mode r = modify k mode r
perform (Branch k) mode r = do
  t ← target mode r
  done (branched (holds k r.status) t (advanced mode r))
perform (Internal k) mode r = done (leaves (internal k (advanced mode r)) 0)
perform JMP mode r = do
  t ← target mode r
  done (leaves_at t.first (set_pc t.address r) 0)
perform JSR mode r = do
  l ← fetch (operand r 1)
  r₁ ← push_address (operand r 2) r
  h ← fetch (operand r 2)
  done (leaves_at (joined h l) (set_pc (joined h l) r₁) 0)
perform RTS mode r = do
  (back, r₁) ← pull_address r
  done (leaves (set_pc (address_of (back + 1)) r₁) 0)
perform PHA mode r = do
  r₁ ← push r.accumulator r
  done (leaves (advanced mode r₁) 0)
perform PHP mode r = do
  r₁ ← push (pushed_byte r.status) r
  done (leaves (advanced mode r₁) 0)
perform PLA mode r = do
  (b, r₁) ← pull r
  done (leaves (load_a b (advanced mode r₁)) 0)
perform PLP mode r = do
  (b, r₁) ← pull r
  done (leaves (set_status (pulled_status b) (advanced mode r₁)) 0)
perform BRK mode r = do
  r₁ ← enter (operand r 2) (pushed_byte r.status) irq_vector r
  done (leaves r₁ 0)
perform RTI mode r = do
  (b, r₁) ← pull r
  (back, r₂) ← pull_address r₁
  done (leaves (set_pc back (set_status (pulled_status b) r₂)) 0)
