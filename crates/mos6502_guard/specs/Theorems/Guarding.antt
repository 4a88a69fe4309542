-- What the promises of the guarded run and of the extract on numbers are worth. `reads`, `stores` and `sealed` are any tests of addresses.
use Rattle.std.specs.Prelude.{ℕ, ◌≡◌, refl, Bool, List, length}
use Rattle.std.proofs.Common.{ap, sym, ◌∙◌, subst, arith}
use Rattle.laws.specs.Answers.{would_read, would_store}
use Rattle.manual.specs.declared.Reason.{Reason}
use Rattle.manual.specs.declared.Reason.TheVariants.{Made, MemoryNotFull, NoCycleRoom, NotAnOpcode, BoundTooHigh}
use Rattle.manual.specs.Outcomes.{number}
use Rattle.manual.proofs.Theorems.Sealed.{Differ}
use Rattle.mos6502_numbers.specs.Machines.{machine_from, lines_from}
use Rattle.guard.specs.Guarded.{guarded}
use Rattle.guard.specs.Lemmas.AnyGuard.{Under}
use Rattle.guard.specs.Theorems.Guarding.{guarded_apart}
use Rattle.guard.specs.Theorems.Extracting.{one_extract}
use Rattle.mos6502_guard.specs.Guarding.{GuardNumbers, guard_numbers, on_numbers, guarded_on_numbers, extract_on_numbers}

-- No run answers 13 or 14: whoever looks at the answer alone knows whether it was halted.
pub no_run_halts : (r : Reason) → (number r ≡ would_read → ⊥) × (number r ≡ would_store → ⊥)
no_run_halts Made = (λ e. omega arith, λ e. omega arith)
no_run_halts MemoryNotFull = (λ e. omega arith, λ e. omega arith)
no_run_halts NoCycleRoom = (λ e. omega arith, λ e. omega arith)
no_run_halts NotAnOpcode = (λ e. omega arith, λ e. omega arith)
no_run_halts BoundTooHigh = (λ e. omega arith, λ e. omega arith)

module _ (bound lines registers cycles : ℕ) (m₁ m₂ : List ℕ) {v₁ v₂ : GuardNumbers} {e₁ e₂ : List ℕ} where
  -- No number that comes back depends on a byte that is guarded against reads. On two full memories that differ only in such bytes the answer,
  -- the steps, the place and both numbers are the same, and so are the bytes that are left elsewhere.
  pub numbers_apart : (reads stores : ℕ → Bool) → Differ (Under reads) m₁ m₂
      → (v₁, e₁) ≡ guarded_on_numbers reads stores bound lines registers cycles m₁
      → (v₂, e₂) ≡ guarded_on_numbers reads stores bound lines registers cycles m₂
      → (v₁ ≡ v₂) × Differ (Under reads) e₁ e₂
  numbers_apart reads stores d g₁ g₂ =
      let s = machine_from registers cycles in
      let l = lines_from lines in
      let apart = guarded_apart reads stores bound l s m₁ m₂ d _ _ refl refl in
      let memory : GuardNumbers × List ℕ → List ℕ = λ w. w.1 in (
        ap (λ (w : GuardNumbers × List ℕ). w.0) g₁ ∙ ap (guard_numbers registers cycles) apart.0 ∙ sym (ap (λ (w : GuardNumbers × List ℕ). w.0) g₂),
        subst (λ (e : List ℕ). Differ (Under reads) e e₂) (sym (ap memory g₁))
            (subst (λ (e : List ℕ). Differ (Under reads) (guarded reads stores (length m₁) bound l s m₁).1 e) (sym (ap memory g₂)) apart.1),
      )

  -- Nothing that the extract gives depends on a sealed byte, no byte of its memory either: all of it may be handed out.
  pub extract_apart : (sealed : ℕ → Bool) → Differ (Under sealed) m₁ m₂
      → (v₁, e₁) ≡ extract_on_numbers sealed bound lines registers cycles m₁
      → (v₂, e₂) ≡ extract_on_numbers sealed bound lines registers cycles m₂
      → (v₁ ≡ v₂) × (e₁ ≡ e₂)
  extract_apart sealed d g₁ g₂ =
      let h = g₁ ∙ ap (on_numbers registers cycles) (one_extract sealed bound (lines_from lines) (machine_from registers cycles) m₁ m₂ d) ∙ sym g₂ in
      (ap (λ (w : GuardNumbers × List ℕ). w.0) h, ap (λ (w : GuardNumbers × List ℕ). w.1) h)
