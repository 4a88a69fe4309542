-- Taken, the counter goes to the target. Where it is not taken the target does not matter: to find it changes nothing.
use Prim.Native.Nat.{ℕ}
use mathlib.Core.Path.{refl, sym, ◌∙◌}
use mathlib.Core.List.{List}
use Rattle.registers.specs.declared.Registers.{Registers}
use Rattle.instruction.specs.declared.AddressingMode.{AddressingMode}
use Rattle.instruction.specs.declared.AddressingMode.TheVariants.{Accumulator, Implied, Immediate, ZeroPage, ZeroPageX, ZeroPageY, Relative, Absolute, AbsoluteX, AbsoluteY, BuggyIndirect, IndexedIndirectX, IndirectIndexedY}
use Rattle.manual.specs.Micro.{exec, Gives}
use Rattle.manual.specs.Addressing.{target}
use Rattle.manual.specs.Branching.{branched}
use Rattle.manual.proofs.Lemmas.InstructionLaws.{branch_gives}
use Rattle.operations.proofs.branch.Goals as goal

aimed : (mode : AddressingMode) (r : Registers) (m : List ℕ) → Gives (target mode r) m (exec (target mode r) m).0 m
unfolding target
aimed Accumulator r m = refl
aimed Implied r m = refl
aimed Immediate r m = refl
aimed ZeroPage r m = refl
aimed ZeroPageX r m = refl
aimed ZeroPageY r m = refl
aimed Relative r m = refl
aimed Absolute r m = refl
aimed AbsoluteX r m = refl
aimed AbsoluteY r m = refl
aimed BuggyIndirect r m = refl
aimed IndexedIndirectX r m = refl
aimed IndirectIndexedY r m = refl

pub returns-then-holds : goal.returns-then-holds
unfolding branched
returns-then-holds c =
    branch_gives _ _ _ _ c.target_of-target.ensures _
    ∙ rw (sym c.holds.ensures ∙ c.if-holds.true, c.leaves.ensures, c.flag.ensures.value, c.with_counter.ensures, c.advanced-past.ensures)

pub returns-else-holds : goal.returns-else-holds
unfolding branched
returns-else-holds c =
    branch_gives _ _ _ _ (aimed _ _ _) _
    ∙ rw (sym c.holds.ensures ∙ c.if-holds.false, c.leaves-else-holds.ensures, c.advanced-past.ensures)
