-- Registers in range stay in range under every pure part of the definition: the registers with one replaced, and what the operations leave.
use Rattle.std.specs.Prelude.{ℕ, ◌+◌, ◌<◌, Bool, ℤ, pos, negsuc}
use Rattle.std.proofs.Common.{arith}
use Rattle.std.proofs.lemmas.Nat.{and_le_l, or_lt, xor_lt}
use Rattle.registers.specs.declared.Registers.{Registers}
use Rattle.registers.specs.declared.Status.{Status}
use Rattle.registers.specs.InRange.{InRange}
use Rattle.registers.specs.Theorems.RoundTrip.{bit_most}
use Rattle.instruction.specs.declared.ReadOperation.{ReadOperation}
use Rattle.instruction.specs.declared.ReadOperation.TheVariants.{ADC, AND, BIT, CMP, CPX, CPY, EOR, LDA, LDX, LDY, ORA, SBC}
use Rattle.instruction.specs.declared.StoreOperation.{StoreOperation}
use Rattle.instruction.specs.declared.StoreOperation.TheVariants.{STA, STX, STY}
use Rattle.instruction.specs.declared.ModifyOperation.{ModifyOperation}
use Rattle.instruction.specs.declared.ModifyOperation.TheVariants.{ASL, DEC, INC, LSR, ROL, ROR}
use Rattle.instruction.specs.declared.InternalOperation.{InternalOperation}
use Rattle.instruction.specs.declared.InternalOperation.TheVariants.{CLC, CLD, CLI, CLV, DEX, DEY, INX, INY, NOP, SEC, SED, SEI, TAX, TAY, TSX, TXA, TXS, TYA}
use Rattle.instruction.specs.declared.AddressingMode.{AddressingMode}
use Rattle.instruction.specs.Modes.{operand_bytes}
use Rattle.manual.specs.declared.ArithmeticOutput.{ArithmeticOutput}
use Rattle.manual.specs.Words.{around}
use Rattle.registers.specs.State.{set_a, set_x, set_y, set_s, set_pc, set_status, flags}
use Rattle.manual.specs.Flags.{shown, load_a, load_x, load_y}
use Rattle.manual.specs.Arithmetic.{binary_sum, binary_difference}
use Rattle.manual.specs.Decimal.{rust_sum, rust_difference}
use Rattle.manual.specs.Branching.{compared, tested}
use Rattle.manual.specs.Addressing.{operand}
use Rattle.manual.specs.Internal.{internal}
use Rattle.manual.specs.Shifting.{modified, modified_flags}
use Rattle.manual.specs.Instructions.{sum, difference, with_output, applied, stored, advanced}
use Rattle.manual.specs.Lemmas.Programs.{either}
use Rattle.manual.proofs.Theorems.DecimalDigits.{sum_by_digits, difference_by_digits}

module _ (r : Registers) (h : InRange r) where
  pub in_set_a : (b : ℕ) → b < 256 → InRange (set_a b r)
  unfolding set_a
  in_set_a b l = record { accumulator = l; x = h.x; y = h.y; stack = h.stack; counter = h.counter }

  pub in_set_x : (b : ℕ) → b < 256 → InRange (set_x b r)
  unfolding set_x
  in_set_x b l = record { accumulator = h.accumulator; x = l; y = h.y; stack = h.stack; counter = h.counter }

  pub in_set_y : (b : ℕ) → b < 256 → InRange (set_y b r)
  unfolding set_y
  in_set_y b l = record { accumulator = h.accumulator; x = h.x; y = l; stack = h.stack; counter = h.counter }

  pub in_set_s : (b : ℕ) → b < 256 → InRange (set_s b r)
  unfolding set_s
  in_set_s b l = record { accumulator = h.accumulator; x = h.x; y = h.y; stack = l; counter = h.counter }

  pub in_set_pc : (p : ℕ) → p < 65536 → InRange (set_pc p r)
  unfolding set_pc
  in_set_pc p l = record { accumulator = h.accumulator; x = h.x; y = h.y; stack = h.stack; counter = l }

  pub in_set_status : (p : Status) → InRange (set_status p r)
  unfolding set_status
  in_set_status p = record { accumulator = h.accumulator; x = h.x; y = h.y; stack = h.stack; counter = h.counter }

  pub in_flags : (f : Status → Status) → InRange (flags f r)
  unfolding flags
  in_flags f = in_set_status (f r.status)

  pub in_shown : (b : ℕ) → InRange (shown b r)
  unfolding shown
  in_shown b = in_flags _

  pub in_advanced : (mode : AddressingMode) → InRange (advanced mode r)
  in_advanced mode = in_set_pc (operand r (1 + operand_bytes mode)) (omega arith)

module _ (r : Registers) (h : InRange r) (b : ℕ) (l : b < 256) where
  pub in_load_a : InRange (load_a b r)
  in_load_a = in_shown (set_a b r) (in_set_a r h b l) b

  pub in_load_x : InRange (load_x b r)
  in_load_x = in_shown (set_x b r) (in_set_x r h b l) b

  pub in_load_y : InRange (load_y b r)
  in_load_y = in_shown (set_y b r) (in_set_y r h b l) b

pub in_sum : (m : ℕ) (r : Registers) → (sum m r).result < 256
unfolding sum binary_sum rust_sum
in_sum m r =
    either (λ (o : ArithmeticOutput). o.result < 256) r.status.decimal _ _ (rw (sum_by_digits r.accumulator m) (omega arith)) (omega arith)

pub in_difference : (m : ℕ) (r : Registers) → (difference m r).result < 256
unfolding difference binary_difference rust_difference
in_difference m r =
    either (λ (o : ArithmeticOutput). o.result < 256) r.status.decimal _ _
    (rw (difference_by_digits r.accumulator m) (omega arith)) (omega arith)

pub in_output : (o : ArithmeticOutput) (r : Registers) → InRange r → o.result < 256 → InRange (with_output o r)
unfolding with_output
in_output o r h l = in_load_a _ (in_flags r h _) o.result l

pub in_compared : (register m : ℕ) (r : Registers) → InRange r → InRange (compared register m r)
unfolding compared
in_compared register m r h = in_shown _ (in_flags r h _) _

pub in_applied : (k : ReadOperation) (m : ℕ) (r : Registers) → InRange r → m < 256 → InRange (applied k m r)
unfolding applied tested
in_applied ADC m r h l = in_output (sum m r) r h (in_sum m r)
in_applied SBC m r h l = in_output (difference m r) r h (in_difference m r)
in_applied AND m r h l = in_load_a r h _ (omega (arith, and_le_l r.accumulator m, h.accumulator))
in_applied ORA m r h l = in_load_a r h _ (or_lt 8 r.accumulator m h.accumulator l)
in_applied EOR m r h l = in_load_a r h _ (xor_lt 8 r.accumulator m h.accumulator l)
in_applied LDA m r h l = in_load_a r h m l
in_applied LDX m r h l = in_load_x r h m l
in_applied LDY m r h l = in_load_y r h m l
in_applied CMP m r h l = in_compared r.accumulator m r h
in_applied CPX m r h l = in_compared r.x m r h
in_applied CPY m r h l = in_compared r.y m r h
in_applied BIT m r h l = in_flags r h _

pub in_stored : (k : StoreOperation) (r : Registers) → InRange r → stored k r < 256
in_stored STA r h = h.accumulator
in_stored STX r h = h.x
in_stored STY r h = h.y

pub in_modified : (k : ModifyOperation) (b : ℕ) (c : Bool) → b < 256 → modified k b c < 256
in_modified ASL b c l = omega arith
in_modified DEC b c l = omega arith
in_modified INC b c l = omega arith
in_modified LSR b c l = omega arith
in_modified ROL b c l = omega arith
in_modified ROR b c l = omega (arith, bit_most c)

pub in_modified_flags : (k : ModifyOperation) (b : ℕ) (r : Registers) → InRange r → InRange (modified_flags k b r)
unfolding modified_flags
in_modified_flags k b r h = in_shown _ (in_flags r h _) _

pub in_internal : (k : InternalOperation) (r : Registers) → InRange r → InRange (internal k r)
unfolding internal
in_internal TAX r h = in_load_x r h _ h.accumulator
in_internal TAY r h = in_load_y r h _ h.accumulator
in_internal TSX r h = in_load_x r h _ h.stack
in_internal TXA r h = in_load_a r h _ h.x
in_internal TYA r h = in_load_a r h _ h.y
in_internal TXS r h = in_set_s r h _ h.x
in_internal INX r h = in_load_x r h _ (omega arith)
in_internal INY r h = in_load_y r h _ (omega arith)
in_internal DEX r h = in_load_x r h _ (omega arith)
in_internal DEY r h = in_load_y r h _ (omega arith)
in_internal CLC r h = in_flags r h _
in_internal CLD r h = in_flags r h _
in_internal CLI r h = in_flags r h _
in_internal CLV r h = in_flags r h _
in_internal SEC r h = in_flags r h _
in_internal SED r h = in_flags r h _
in_internal SEI r h = in_flags r h _
in_internal NOP r h = h

pub in_around : (z : ℤ) → around z < 65536
unfolding around
in_around (pos n) = omega arith
in_around (negsuc n) = omega arith
