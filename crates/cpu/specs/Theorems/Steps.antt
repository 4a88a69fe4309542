-- A step from what its opcode does.
use Rattle.std.specs.Prelude.{◌≡◌, ℕ, ◌+◌, ◌≤◌, List, Option, Some, None}
use Rattle.opcode_effects.specs.declared.Performed.{Performed}
use Rattle.instruction.specs.declared.Entry.{Entry}
use Rattle.std.proofs.Math.Path.{refl, ap, subst}
use Rattle.std.proofs.Common.{sym, ◌∙◌}
use native.Mathlib.Omega.{arith}
use Rattle.instruction.specs.Opcodes.{decoded}
use Rattle.instruction.specs.Theorems.Table.{table_rules}
use Rattle.manual.specs.declared.Lines.{Lines}
use Rattle.manual.specs.declared.Machine.{Machine}
use Rattle.manual.specs.declared.Stepped.{Stepped}
use Rattle.manual.specs.declared.Reason.TheVariants.{NotAnOpcode}
use Rattle.manual.specs.Micro.{exec, Gives}
use Rattle.manual.specs.Outcomes.{refused}
use Rattle.manual.specs.Interrupts.{due}
use Rattle.manual.specs.Instructions.{perform}
use Rattle.manual.specs.Stepping.{highest_count, made, step_full}
use Rattle.manual.proofs.Lemmas.Extra.{extra_most}
use Rattle.manual.specs.Lemmas.Programs.{exec_bind}
use Rattle.manual.proofs.Lemmas.StepLaws.{opcode_of, step_defined, step_undefined}
use Rattle.opcode_effects.specs.Inner.Performing.{ticks_of, dispatched}

-- what a step answers by it
abbrev pub step_by : Lines → Machine → Option Performed → Stepped
step_by lines s (Some p) = made lines s p.first p.registers (ticks_of p.ticks)
step_by lines s None = refused NotAnOpcode s

-- what it takes off the clock
abbrev pub ticks_in : Option Performed → ℕ
ticks_in (Some p) = p.ticks
ticks_in None = 268435456

-- If there is room and no line to serve, the step is what the byte at the counter does, and it takes at most seven cycles: so
-- much less than a step it takes off the clock.
pub record StepsBy (lines : Lines) (s : Machine) (m : List ℕ) (q : Option Performed) (m' : List ℕ) : Type 0 where
  pub gives : Gives (step_full lines s) m (step_by lines s q) m'
  pub few : ticks_of (ticks_in q) ≤ 7
  pub within : ticks_in q ≤ 268435456

module _ (lines : Lines) (s : Machine) (m : List ℕ) (room : s.cycles ≤ highest_count) (none : due lines s ≡ None) where
  by_meaning : (d : Option Entry) → decoded (opcode_of s m) ≡ d → StepsBy lines s m (exec (dispatched d s.registers) m).0 (exec (dispatched d s.registers) m).1
  unfolding dispatched
  by_meaning (Some e) is =
      let w = exec (perform e.instruction e.mode s.registers) m in
      subst (λ (p : Option Performed × List ℕ). StepsBy lines s m p.0 p.1) (sym (exec_bind (perform e.instruction e.mode s.registers) _ m))
      (let most : e.cycles + w.0.extra ≤ 7 = omega (arith, (table_rules.ruled (opcode_of s m) e is).total_most, extra_most e.instruction e.mode s.registers m) in
      let back : e.cycles + w.0.extra ≡ ticks_of (ticks_of (e.cycles + w.0.extra)) = omega (arith, most) in
      record {
        gives = step_defined lines s m e {f = w.0} room none is refl ∙ ap (λ (k : ℕ). (made lines s w.0.first w.0.registers k, w.1)) back;
        few = omega (arith, most);
        within = omega (arith, most);
      })
  by_meaning None is = record { gives = step_undefined lines s m room none is; few = omega arith; within = omega arith }

  pub step_by_lem : (opcode : ℕ) {q : Option Performed} {m' : List ℕ} → opcode ≡ opcode_of s m → Gives (dispatched (decoded opcode) s.registers) m q m'
      → StepsBy lines s m q m'
  step_by_lem opcode e g =
      subst (λ (p : Option Performed × List ℕ). StepsBy lines s m p.0 p.1) (ap (λ (k : ℕ). exec (dispatched (decoded k) s.registers) m) (sym e) ∙ g)
      (by_meaning (decoded (opcode_of s m)) refl)
