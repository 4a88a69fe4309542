-- The last arm of a match on a number: what it knows, and what follows.
use Rattle.std.specs.Prelude.{ℕ, zero, suc, ◌≤◌, ◌≡◌, refl, Bool, true, false, cond, List, [], ◌∷◌, eqb, get_or, length}
use Rattle.std.proofs.Common.{zero-le, arith, ne_eqb}
use Rattle.std.proofs.Math.ListN.{get_or-eq_default}
use Rattle.laws.specs.Lemmas.Agree.{values_below}

-- the number is none of those that have an arm, which stand in the list from the last on
abbrev pub NoneOf : ℕ → List ℕ → Type 0
NoneOf x [] = Unit {0}
NoneOf x (k ∷ ks) = NoneOf x ks × (x ≡ k → ⊥)

abbrev pub among : ℕ → List ℕ → Bool
among x [] = false
among x (k ∷ ks) = cond (eqb x k) true (among x ks)

pub not_among : (x : ℕ) (ks : List ℕ) → NoneOf x ks → among x ks ≡ false
not_among x [] none = refl
not_among x (k ∷ ks) none = simp (ne_eqb x k none.1) (not_among x ks none.0)

-- if each number below a bound has an arm
abbrev pub NoneBelow : ℕ → ℕ → Type 0
NoneBelow bound x = NoneOf x (values_below (λ k. k) bound)

at_least : (bound x : ℕ) → NoneBelow bound x → bound ≤ x
at_least zero x none = zero-le
at_least (suc bound) x none = let less = at_least bound x none.0 in omega arith

-- A number that is none of a list's places finds the default.
pub past : {A : Type 0} (l : List A) (default : A) (x : ℕ) → NoneBelow (length l) x → default ≡ get_or l x default
past l default x none = rw (get_or-eq_default l default (at_least (length l) x none))
