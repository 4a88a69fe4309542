-- Each arm is its class; the others store nothing, and are not asked for.
use mathlib.Core.Path.{◌≡◌, refl, sym, ◌∙◌}
use mathlib.Core.Bool.{false, true≢false}
use borrow.Author.Tests.{eqb-false, not-true}
use Rattle.instruction.specs.declared.Instruction.{Instruction}
use Rattle.instruction.specs.declared.Instruction.TheVariants.{Read, Store, Modify, Branch, Internal, BRK, JMP, JSR, PHA, PHP, PLA, PLP, RTI, RTS}
use Rattle.instruction.specs.declared.StoreOperation.{StoreOperation}
use Rattle.instruction.specs.declared.ModifyOperation.{ModifyOperation}
use Rattle.instruction.specs.declared.AddressingMode.{AddressingMode}
use Rattle.opcode_effects.specs.Inner.Storing.{stores_in}
use Rattle.opcode_effects.proofs.storing.execute_storing.Goals as goal

the_others : (i : Instruction) (mode : AddressingMode)
    → ((k : StoreOperation) → i ≡ Store k → ⊥)
    → ((k : ModifyOperation) → i ≡ Modify k → ⊥)
    → (i ≡ BRK → ⊥)
    → (i ≡ JSR → ⊥)
    → (i ≡ PHA → ⊥)
    → (i ≡ PHP → ⊥)
    → stores_in i mode ≡ false
the_others (Read k) mode store modify brk jsr pha php = refl
the_others (Store k) mode store modify brk jsr pha php = absurd (store k refl)
the_others (Modify k) mode store modify brk jsr pha php = absurd (modify k refl)
the_others (Branch k) mode store modify brk jsr pha php = refl
the_others (Internal k) mode store modify brk jsr pha php = refl
the_others BRK mode store modify brk jsr pha php = absurd (brk refl)
the_others JMP mode store modify brk jsr pha php = refl
the_others JSR mode store modify brk jsr pha php = absurd (jsr refl)
the_others PHA mode store modify brk jsr pha php = absurd (pha refl)
the_others PHP mode store modify brk jsr pha php = absurd (php refl)
the_others PLA mode store modify brk jsr pha php = refl
the_others PLP mode store modify brk jsr pha php = refl
the_others RTI mode store modify brk jsr pha php = refl
the_others RTS mode store modify brk jsr pha php = refl

pub modify-requires : goal.modify-requires
modify-requires c = eqb-false _ _ (not-true _ (rw c.in-Modify.is at c.requires))

pub returns-in-Store : goal.returns-in-Store
returns-in-Store c = rw c.in-Store.is c.store.ensures

pub returns-in-Modify : goal.returns-in-Modify
returns-in-Modify c = rw c.in-Modify.is c.modify.ensures

pub returns-in-BRK : goal.returns-in-BRK
returns-in-BRK c = rw c.in-BRK.is c.force_break.ensures

pub returns-in-JSR : goal.returns-in-JSR
returns-in-JSR c = rw c.in-JSR.is c.jump_to_subroutine.ensures

pub returns-in-PHA : goal.returns-in-PHA
returns-in-PHA c = rw c.in-PHA.is c.push_accumulator.ensures

pub returns-in-PHP : goal.returns-in-PHP
returns-in-PHP c = rw c.in-PHP.is c.push_status.ensures

pub returns-in_default : goal.returns-in_default
returns-in_default c = absurd (true≢false (sym c.requires ∙ the_others c.args.instruction c.args.mode c.in_default.not-Store c.in_default.not-Modify c.in_default.not-BRK c.in_default.not-JSR c.in_default.not-PHA c.in_default.not-PHP))
