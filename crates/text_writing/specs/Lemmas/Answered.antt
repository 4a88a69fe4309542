-- Of what may be refused the numbers say all: whether it is refused, with what, and what is answered if not.
use Rattle.std.specs.Prelude.{ℕ, ◌≡◌, refl, Option, Some, None, Result, Ok, Err}
use Rattle.std.proofs.Common.{ap, sym}
use Rattle.laws.specs.declared.answers.Refusal.{Refusal}
use Rattle.text_writing.specs.Lemmas.Refusals.{never_good, one_refusal}
use Rattle.text_writing.specs.Delivered.{answer_in, numbers_of}

pub one_answer : (a b : Option Refusal) → answer_in a ≡ answer_in b → a ≡ b
one_answer None None e = refl
one_answer None (Some b) e = absurd (never_good b (sym e))
one_answer (Some a) None e = absurd (never_good a e)
one_answer (Some a) (Some b) e = ap (λ (r : Refusal). Some r) (one_refusal a b e)

pub one_delivery : (p q : Result ℕ Refusal) → numbers_of p ≡ numbers_of q → p ≡ q
one_delivery (Ok n) (Ok m) e = ap (λ (k : ℕ). Ok k) (ap (λ (w : ℕ × ℕ). w.1) e)
one_delivery (Ok n) (Err b) e = absurd (never_good b (sym (ap (λ (w : ℕ × ℕ). w.0) e)))
one_delivery (Err a) (Ok m) e = absurd (never_good a (ap (λ (w : ℕ × ℕ). w.0) e))
one_delivery (Err a) (Err b) e = ap (λ (r : Refusal). Err r) (one_refusal a b (ap (λ (w : ℕ × ℕ). w.0) e))
