-- No instruction takes more cycles beyond its base than the table allows it: one for a read that crosses a page, two for a branch.
use Rattle.std.specs.Prelude.{ℕ, ◌≤◌, Bool, true, false, List, eqb}
use Rattle.std.proofs.Common.{ap, arith, lit≤}
use Rattle.registers.specs.declared.Registers.{Registers}
use Rattle.registers.specs.StatusByte.{pushed_byte}
use Rattle.registers.specs.Theorems.RoundTrip.{bit_most}
use Rattle.instruction.specs.declared.Instruction.{Instruction}
use Rattle.instruction.specs.declared.Instruction.TheVariants.{Read, Store, Modify, Branch, Internal, BRK, JMP, JSR, PHA, PHP, PLA, PLP, RTI, RTS}
use Rattle.instruction.specs.declared.AddressingMode.{AddressingMode}
use Rattle.instruction.specs.Modes.{operand_bytes}
use Rattle.instruction.specs.Theorems.Table.{most_extra}
use Rattle.manual.specs.declared.Effect.{Effect}
use Rattle.manual.specs.declared.Target.{Target}
use Rattle.manual.specs.Micro.{Micro, exec, Gives}
use Rattle.manual.specs.Branching.{holds, branched}
use Rattle.manual.specs.Addressing.{operand, target}
use Rattle.manual.specs.Stack.{push, pull, push_address, pull_address}
use Rattle.manual.specs.Interrupts.{irq_vector, enter}
use Rattle.manual.specs.Instructions.{modify, perform}
use Rattle.manual.specs.Lemmas.Programs.{exec_bind, either}

branched_extra : (t : Bool) (a : Target) (r : Registers) → (branched t a r).extra ≤ 2
unfolding branched
branched_extra true a r = omega (arith, bit_most a.crossed)
branched_extra false a r = lit≤ tt

pub extra_most : (i : Instruction) (mode : AddressingMode) (r : Registers) (m : List ℕ) → (exec (perform i mode r) m).0.extra ≤ most_extra i
unfolding perform modify
extra_most (Read k) mode r m = rw (exec_bind (target mode r) _ m) (bit_most (exec (target mode r) m).0.crossed)
extra_most (Store k) mode r m = rw (exec_bind (target mode r) _ m) (lit≤ tt)
extra_most (Modify k) mode r m = either (λ (p : Micro Effect). (exec p m).0.extra ≤ 0) (eqb (operand_bytes mode) 0) _ _ (lit≤ tt) (rw (exec_bind (target mode r) _ m) (lit≤ tt))
extra_most (Branch k) mode r m = rw (exec_bind (target mode r) _ m) (branched_extra (holds k r.status) _ _)
extra_most (Internal k) mode r m = lit≤ tt
extra_most JMP mode r m = rw (exec_bind (target mode r) _ m) (lit≤ tt)
extra_most JSR mode r m = rw (exec_bind (push_address (operand r 2) r) _ m) (lit≤ tt)
extra_most RTS mode r m = rw (exec_bind (pull_address r) _ m) (lit≤ tt)
extra_most PHA mode r m = rw (exec_bind (push r.accumulator r) _ m) (lit≤ tt)
extra_most PHP mode r m = rw (exec_bind (push (pushed_byte r.status) r) _ m) (lit≤ tt)
extra_most PLA mode r m = rw (exec_bind (pull r) _ m) (lit≤ tt)
extra_most PLP mode r m = rw (exec_bind (pull r) _ m) (lit≤ tt)
extra_most BRK mode r m = rw (exec_bind (enter (operand r 2) (pushed_byte r.status) irq_vector r) _ m) (lit≤ tt)
extra_most RTI mode r m = rw (exec_bind (pull r) _ m) (rw (exec_bind (pull_address _) _ _) (lit≤ tt))

-- the same of whatever meets an instruction's promise
pub extra_of : (i : Instruction) (mode : AddressingMode) (r : Registers) (m : List ℕ) {f : Effect} {m' : List ℕ}
    → Gives (perform i mode r) m f m' → f.extra ≤ most_extra i
extra_of i mode r m g = rw (ap (λ (w : Effect × List ℕ). w.0) g) at (extra_most i mode r m)
