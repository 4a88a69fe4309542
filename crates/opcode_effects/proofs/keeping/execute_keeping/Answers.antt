-- Each arm is its class; the others store, and are not asked for.
use mathlib.Core.Path.{◌≡◌, refl, sym, ◌∙◌}
use mathlib.Core.Bool.{true, true≢false}
use borrow.Author.Tests.{eqb-true, not-false}
use Rattle.instruction.specs.declared.Instruction.{Instruction}
use Rattle.instruction.specs.declared.Instruction.TheVariants.{Read, Store, Modify, Branch, Internal, BRK, JMP, JSR, PHA, PHP, PLA, PLP, RTI, RTS}
use Rattle.instruction.specs.declared.ReadOperation.{ReadOperation}
use Rattle.instruction.specs.declared.ModifyOperation.{ModifyOperation}
use Rattle.instruction.specs.declared.BranchOperation.{BranchOperation}
use Rattle.instruction.specs.declared.InternalOperation.{InternalOperation}
use Rattle.instruction.specs.declared.AddressingMode.{AddressingMode}
use Rattle.opcode_effects.specs.Inner.Storing.{stores_in}
use Rattle.manual.specs.Lemmas.Programs.{at_once}
use Rattle.opcode_effects.proofs.keeping.execute_keeping.Goals as goal

the_others : (i : Instruction) (mode : AddressingMode)
    → ((k : ReadOperation) → i ≡ Read k → ⊥)
    → ((k : ModifyOperation) → i ≡ Modify k → ⊥)
    → ((k : BranchOperation) → i ≡ Branch k → ⊥)
    → ((k : InternalOperation) → i ≡ Internal k → ⊥)
    → (i ≡ JMP → ⊥)
    → (i ≡ PLA → ⊥)
    → (i ≡ PLP → ⊥)
    → (i ≡ RTI → ⊥)
    → (i ≡ RTS → ⊥)
    → stores_in i mode ≡ true
the_others (Read k) mode read modify branch internal jmp pla plp rti rts = absurd (read k refl)
the_others (Store k) mode read modify branch internal jmp pla plp rti rts = refl
the_others (Modify k) mode read modify branch internal jmp pla plp rti rts = absurd (modify k refl)
the_others (Branch k) mode read modify branch internal jmp pla plp rti rts = absurd (branch k refl)
the_others (Internal k) mode read modify branch internal jmp pla plp rti rts = absurd (internal k refl)
the_others BRK mode read modify branch internal jmp pla plp rti rts = refl
the_others JMP mode read modify branch internal jmp pla plp rti rts = absurd (jmp refl)
the_others JSR mode read modify branch internal jmp pla plp rti rts = refl
the_others PHA mode read modify branch internal jmp pla plp rti rts = refl
the_others PHP mode read modify branch internal jmp pla plp rti rts = refl
the_others PLA mode read modify branch internal jmp pla plp rti rts = absurd (pla refl)
the_others PLP mode read modify branch internal jmp pla plp rti rts = absurd (plp refl)
the_others RTI mode read modify branch internal jmp pla plp rti rts = absurd (rti refl)
the_others RTS mode read modify branch internal jmp pla plp rti rts = absurd (rts refl)

pub modify_accumulator-requires : goal.modify_accumulator-requires
modify_accumulator-requires c = eqb-true _ _ (not-false _ (rw c.in-Modify.is at c.requires))

pub returns-in-Read : goal.returns-in-Read
returns-in-Read c = rw c.in-Read.is c.read.ensures

pub returns-in-Modify : goal.returns-in-Modify
returns-in-Modify c = rw c.in-Modify.is (at_once _ c.modify_accumulator.ensures)

pub returns-in-Branch : goal.returns-in-Branch
returns-in-Branch c = rw c.in-Branch.is c.branch-operation.ensures

pub returns-in-Internal : goal.returns-in-Internal
returns-in-Internal c = rw c.in-Internal.is (at_once _ c.internal.ensures)

pub returns-in-JMP : goal.returns-in-JMP
returns-in-JMP c = rw c.in-JMP.is c.jump.ensures

pub returns-in-PLA : goal.returns-in-PLA
returns-in-PLA c = rw c.in-PLA.is c.pull_accumulator.ensures

pub returns-in-PLP : goal.returns-in-PLP
returns-in-PLP c = rw c.in-PLP.is c.pull_status.ensures

pub returns-in-RTI : goal.returns-in-RTI
returns-in-RTI c = rw c.in-RTI.is c.return_from_interrupt.ensures

pub returns-in-RTS : goal.returns-in-RTS
returns-in-RTS c = rw c.in-RTS.is c.return_from_subroutine.ensures

pub returns-in_default : goal.returns-in_default
returns-in_default c = absurd (true≢false (sym (the_others c.args.instruction c.args.mode c.in_default.not-Read c.in_default.not-Modify c.in_default.not-Branch c.in_default.not-Internal c.in_default.not-JMP c.in_default.not-PLA c.in_default.not-PLP c.in_default.not-RTI c.in_default.not-RTS) ∙ c.requires))
