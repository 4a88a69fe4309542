-- The laws that the proof of the code cites.
use Rattle.std.specs.Prelude.{ℕ, ◌≡◌, Bool, true, false, length}
use Rattle.std.proofs.Math.Path.{ap, sym}
use Rattle.std.proofs.Common.{◌∙◌}
use mathlib.Core.List.{List}
use Rattle.manual.specs.declared.Machine.{Machine}
use Rattle.manual.specs.declared.Stepped.{Stepped}
use Rattle.manual.specs.Micro.{Gives}
use Rattle.manual.specs.Interrupts.{idle}
use Rattle.manual.specs.Stepping.{full_memory, step}
use Rattle.manual.proofs.Lemmas.StepLaws.{step_short}
use Rattle.trace_step.specs.Following.{leads_to, chosen, followed}

module _ (s next : Machine) (m : List ℕ) where
  pub follow_refused : (length m ≡ full_memory → ⊥) → (false, m) ≡ followed s next m
  unfolding followed leads_to
  follow_refused f = sym (ap (λ (w : Stepped × List ℕ). chosen (leads_to w.0 next) w.1 m) (step_short (length m) idle s m f))

  module _ {q : Stepped} {m' : List ℕ} (g : Gives (step (length m) idle s) m q m') where
    pub follow_made : leads_to q next ≡ true → (true, m') ≡ followed s next m
    unfolding followed
    follow_made h =
        sym (ap (λ (w : Stepped × List ℕ). chosen (leads_to w.0 next) w.1 m) g ∙ ap (λ (t : Bool). chosen t m' m) h)

    pub follow_undone : {e : List ℕ} → leads_to q next ≡ false → e ≡ m → (false, e) ≡ followed s next m
    unfolding followed
    follow_undone h u =
        ap (λ (l : List ℕ). (false, l)) u
        ∙ sym (ap (λ (w : Stepped × List ℕ). chosen (leads_to w.0 next) w.1 m) g ∙ ap (λ (t : Bool). chosen t m' m) h)
