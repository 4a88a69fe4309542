-- What the promise of a step on a record says, for whatever answer, record and memory meet it. That it admits one result only is
-- `one_result` of manual: it is of the form `Gives`.
use Rattle.std.specs.Prelude.{ℕ, ◌≡◌, refl, List, length}
use Rattle.std.proofs.Common.{ap, sym, ◌∙◌, arith}
use Rattle.manual.specs.declared.Lines.{Lines}
use Rattle.manual.specs.declared.Machine.{Machine}
use Rattle.manual.specs.declared.Stepped.{Stepped}
use Rattle.manual.specs.declared.Reason.{Reason}
use Rattle.manual.specs.declared.Reason.TheVariants.{Made, MemoryNotFull, NoCycleRoom, NotAnOpcode, BoundTooHigh}
use Rattle.manual.specs.Micro.{stores, Gives}
use Rattle.manual.specs.Outcomes.{number, is_made, stepped}
use Rattle.manual.specs.Stepping.{step}
use Rattle.manual.specs.ReadList.{listed_step}
use Rattle.manual.specs.Lemmas.Programs.{exec_then}
use Rattle.manual.specs.Theorems.OneResult.{one_result}
use Rattle.manual.proofs.Theorems.Sealed.{Differ, Unsealed, Kept, step_sealed}
use Rattle.manual.proofs.Lemmas.StepLaws.{step_whole}
use Rattle.manual.proofs.Theorems.Answers.{step_answers}
use Rattle.manual.proofs.Theorems.Serving.{recorded}
use Rattle.cpu_record.specs.declared.StepAnswer.{StepAnswer}
use Rattle.cpu_record.specs.Record.{told, step_record}

module _ (size : ℕ) (lines : Lines) (s : Machine) (m : List ℕ) where
  -- Whoever makes the step by value, tells its reason and address and keeps its machine, makes a step on a record.
  pub on_record : {q : Stepped} {m' : List ℕ} → Gives (step size lines s) m q m' → Gives (step_record size lines s) m (told q, q.machine) m'
  unfolding step_record
  on_record g = exec_then (step size lines s) _ m g

  -- The answers are those of the present call, and the record has its machine.
  pub by_value : {a : StepAnswer} {s' : Machine} {m' : List ℕ} → Gives (step_record size lines s) m (a, s') m' → Gives (step size lines s) m (stepped a.reason a.first s') m'
  by_value g = ap (λ (w : (StepAnswer × Machine) × List ℕ). (stepped w.0.0.reason w.0.0.first w.0.1, w.1)) (sym (on_record refl) ∙ g)

-- Demand 3, read from the records: from equal records, on memories that differ only where they are sealed.
pub record_sealed : (Sealed : ℕ → Type 0) (lines : Lines) (s : Machine) (m₁ m₂ : List ℕ) {a₁ a₂ : StepAnswer} {s₁ s₂ : Machine} {e₁ e₂ : List ℕ}
    → Differ Sealed m₁ m₂
    → Unsealed Sealed (listed_step (length m₁) lines s m₁)
    → Gives (step_record (length m₁) lines s) m₁ (a₁, s₁) e₁
    → Gives (step_record (length m₂) lines s) m₂ (a₂, s₂) e₂
    → (a₁ ≡ a₂) × (s₁ ≡ s₂) × Kept Sealed (stores (step (length m₁) lines s) m₁) m₁ m₂ e₁ e₂
record_sealed Sealed lines s m₁ m₂ d u g₁ g₂ =
    let same = step_sealed Sealed lines s m₁ m₂ d u (by_value (length m₁) lines s m₁ g₁) (by_value (length m₂) lines s m₂ g₂) in
    (ap told same.0, ap (λ (q : Stepped). q.machine) same.0, same.1)

not_zero : (r : Reason) → (r ≡ Made → ⊥) → number r ≡ 0 → ⊥
not_zero Made f e = f refl
not_zero MemoryNotFull f e = omega arith
not_zero NoCycleRoom f e = omega arith
not_zero NotAnOpcode f e = omega arith
not_zero BoundTooHigh f e = omega arith

-- A refusal leaves the record and the memory as they were, and has no address.
pub record_refused : (size : ℕ) (lines : Lines) (s : Machine) (m : List ℕ) {a : StepAnswer} {s' : Machine} {m' : List ℕ}
    → Gives (step_record size lines s) m (a, s') m' → (a.reason ≡ Made → ⊥) → (s' ≡ s) × (m' ≡ m) × (a.first ≡ 0)
record_refused size lines s m {a = a} g f =
    let made = by_value size lines s m g in
    let r = ap (λ (w : Stepped × List ℕ). w.0.reason) made in
    let kept = (step_answers size lines s m).unchanged (λ z. not_zero a.reason f (rw r at z)) in
    let same = one_result (step size lines s) m made kept in
    (ap (λ (q : Stepped). q.machine) same.0, same.1, ap (λ (q : Stepped). q.first) same.0)

-- A step that is made leaves the present level of NMI in the record.
pub record_level : (size : ℕ) (lines : Lines) (s : Machine) (m : List ℕ) {a : StepAnswer} {s' : Machine} {m' : List ℕ}
    → Gives (step_record size lines s) m (a, s') m' → a.reason ≡ Made → s'.nmi ≡ lines.nmi
record_level size lines s m g e =
    let made = by_value size lines s m g in
    let zero = ap (λ (w : Stepped × List ℕ). number w.0.reason) made ∙ ap number e in
    let full = ((step_answers size lines s m).zero.0 zero).0 in
    recorded lines s m (rw (step_whole size lines s full) at made) (ap is_made e)
