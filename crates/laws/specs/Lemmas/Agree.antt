-- A law of every number below a bound, from one computed equation.
use Rattle.std.specs.Prelude.{ℕ, zero, suc, ◌<◌, ◌≡◌, List, [], ◌∷◌}
use Rattle.std.proofs.Common.{⊎_elim, le_of_suc-le-suc, eq-or-lt_of_le, arith}

-- the values of a function below a bound, the last first
abbrev pub values_below : {A : Type 0} → (ℕ → A) → ℕ → List A
values_below f zero = []
values_below f (suc n) = f n ∷ values_below f n

-- Two functions with the same values below a bound agree at each number below it.
pub agree : {A : Type 0} (f g : ℕ → A) (n : ℕ) → values_below f n ≡ values_below g n → (k : ℕ) → k < n → f k ≡ g k
agree f g zero same k below = absurd (omega arith)
agree f g (suc n) same k below =
    let first : f n ≡ g n = cc in
    ⊎_elim
    (λ e. rw e first)
    (λ less. agree f g n (cc) k less)
    (eq-or-lt_of_le (le_of_suc-le-suc below))
