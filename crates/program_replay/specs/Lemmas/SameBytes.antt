-- Laws of SameBytes.antt. The test is std's, and is true exactly if the lists are equal.
use Rattle.std.specs.Prelude.{ℕ, ◌≡◌, refl, Bool, true, false, cond, List, [], ◌∷◌, eqb}
use Rattle.std.proofs.Common.{sym, arith, eq-eqb, eqb-true}
use mathlib.Core.Bool.{◌&&◌}
use Rattle.std.specs.Cmp.Lexicographic.{pointwise}
use Rattle.program_replay.specs.SameBytes.{same_bytes}

both : (t u : Bool) → (t && u) ≡ cond t u false
both true u = refl
both false u = refl

pub same_is : (s t : List ℕ) → pointwise eqb s t ≡ same_bytes s t
unfolding same_bytes
same_is [] [] = refl
same_is [] (b ∷ t) = refl
same_is (a ∷ s) [] = refl
same_is (a ∷ s) (b ∷ t) = rw (← same_is s t) (both (eqb a b) _)

same_self : (s : List ℕ) → same_bytes s s ≡ true
unfolding same_bytes
same_self [] = refl
same_self (a ∷ s) = rw (eq-eqb a a refl) (same_self s)

split : (t : Bool) (u : Bool) → cond t u false ≡ true → (t ≡ true) × (u ≡ true)
split true u e = (refl, e)
split false u e = absurd (let z : ◌≡◌ {A = ℕ} 0 1 = cc in omega arith)

pub same_true : (s t : List ℕ) → same_bytes s t ≡ true → s ≡ t
unfolding same_bytes
same_true [] [] e = refl
same_true [] (b ∷ t) e = absurd (let z : ◌≡◌ {A = ℕ} 0 1 = cc in omega arith)
same_true (a ∷ s) [] e = absurd (let z : ◌≡◌ {A = ℕ} 0 1 = cc in omega arith)
same_true (a ∷ s) (b ∷ t) e =
    let h = split (eqb a b) (same_bytes s t) e in
    let first : a ≡ b = eqb-true a b h.0 in
    let rest : s ≡ t = same_true s t h.1 in
    cc

-- a test that is true exactly if the lists are equal is this one
agrees : (r t : Bool) → (r ≡ true → t ≡ true) → (t ≡ true → r ≡ true) → r ≡ t
agrees true t f g = sym (f refl)
agrees false true f g = g refl
agrees false false f g = refl

pub decides : (r : Bool) (s t : List ℕ) → (r ≡ true → s ≡ t) → (s ≡ t → r ≡ true) → r ≡ same_bytes s t
decides r s t f g = agrees r (same_bytes s t) (λ p. rw (f p) (same_self t)) (λ p. g (same_true s t p))
