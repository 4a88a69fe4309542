-- JSR (P5): the low byte of its operand is read, the return address is pushed, and only then the high byte is read. So a JSR in the stack page
-- may go where its own push leads.
use Rattle.std.specs.Prelude.{ℕ, ◌≡◌, List, [], ◌∷◌, get_or}
use Rattle.std.proofs.Math.Path.{refl, ap}
use Rattle.std.proofs.Common.{⊎_elim}
use Rattle.registers.specs.declared.Registers.{Registers}
use Rattle.registers.specs.State.{set_s, set_pc, down}
use Rattle.instruction.specs.declared.AddressingMode.{AddressingMode}
use Rattle.instruction.specs.declared.Instruction.TheVariants.{JSR}
use Rattle.manual.specs.Micro.{exec, read_at, store_at, accesses}
use Rattle.manual.specs.Words.{joined}
use Rattle.manual.specs.Addressing.{operand}
use Rattle.manual.specs.Stack.{push, push_address}
use Rattle.manual.specs.Instructions.{perform}
use Rattle.manual.specs.Lemmas.Programs.{untouched}

module _ (mode : AddressingMode) (r : Registers) (m : List ℕ) where
  -- the two places of the return address
  abbrev first : ℕ
  first = joined 1 r.stack.0

  abbrev second : ℕ
  second = joined 1 (down r.stack.0)

  -- What a JSR reads and stores to after its opcode, in order.
  pub call_order : accesses (perform JSR mode r) m ≡ read_at (operand r 1) ∷ store_at first ∷ store_at second ∷ read_at (operand r 2) ∷ []
  unfolding accesses perform push push_address set_s
  call_order = refl

  -- If no push lands on the high byte of the operand, JSR goes to the address that its operand named.
  pub call_elsewhere : (operand r 2 ≡ first → ⊥) → (operand r 2 ≡ second → ⊥)
      → (exec (perform JSR mode r) m).0.registers.counter ≡ joined (get_or m (operand r 2) 0) (get_or m (operand r 1) 0)
  unfolding perform push push_address set_s set_pc accesses
  call_elsewhere f g =
      ap (λ (h : ℕ). joined h (get_or m (operand r 1) 0)) (untouched (push_address (operand r 2) r) m (operand r 2) (⊎_elim f (⊎_elim g (λ x. x))))
