-- A promise of the form `Gives p m a m'` admits one result only: any two results that meet it are the same value and the same memory.
-- Every promise about a step, a run or a part of one has this form.
use Rattle.std.specs.Prelude.{ℕ, ◌≡◌, List}
use Rattle.std.proofs.Common.{ap, sym, ◌∙◌}
use Rattle.manual.specs.Micro.{Micro, Gives}

pub one_result : {A : Type 0} (p : Micro A) (m : List ℕ) {a b : A} {m' m'' : List ℕ} → Gives p m a m' → Gives p m b m'' → (a ≡ b) × (m' ≡ m'')
one_result p m e g = (ap (λ (w : _ × List ℕ). w.0) (sym e ∙ g), ap (λ (w : _ × List ℕ). w.1) (sym e ∙ g))
