-- A match whose arms have several numbers each, against a function: each arm is right, and so is the last one, by a test each.
use Rattle.std.specs.Prelude.{◌≡◌, ℕ, zero, suc, ◌<◌, Bool, true, false, cond, List, [], ◌∷◌, refl}
use Rattle.std.proofs.Common.{ap, sym, ◌∙◌, inl, inr, ⊎_elim, ne_eqb}
use types.Run.{OneOf}
use Rattle.laws.specs.Lemmas.Agree.{agree, values_below}
use Rattle.laws.specs.Lemmas.LastArm.{among}

-- the numbers of an arm, and what it gives
abbrev pub Arm : Type 0 → Type 0
Arm V = List ℕ × V

abbrev pub codes_at : {V : Type 0} → List (Arm V) → ℕ → List ℕ
codes_at [] i = []
codes_at (a ∷ arms) zero = a.0
codes_at (a ∷ arms) (suc i) = codes_at arms i

-- past the last arm, what that gives
abbrev pub given_at : {V : Type 0} → V → List (Arm V) → ℕ → V
given_at v [] i = v
given_at v (a ∷ arms) zero = a.1
given_at v (a ∷ arms) (suc i) = given_at v arms i

-- what the last arm knows: the number is none of those of the others, the first innermost
abbrev pub Rest : {V : Type 0} → ℕ → List (Arm V) → Type 0 → Type 0
Rest x [] T = T
Rest x (a ∷ arms) T = Rest x arms (T × (OneOf a.0 x → ⊥))

-- ---- an arm

abbrev values_at : {A : Type 0} → (ℕ → A) → List ℕ → List A
values_at f [] = []
values_at f (k ∷ ks) = f k ∷ values_at f ks

-- what the arms give and what the function does, if what each arm gives stands for a value
abbrev pub given : {V A : Type 0} → (V → A) → List (Arm V) → List (List A)
given value [] = []
given value (a ∷ arms) = values_at (λ k. value a.1) a.0 ∷ given value arms

abbrev pub wanted : {V A : Type 0} → (ℕ → A) → List (Arm V) → List (List A)
wanted f [] = []
wanted f (a ∷ arms) = values_at f a.0 ∷ wanted f arms

right_in : {A : Type 0} (f : ℕ → A) (v : A) (x : ℕ) (ks : List ℕ) → values_at (λ k. v) ks ≡ values_at f ks → OneOf ks x → v ≡ f x
right_in f v x [] same one = absurd one
right_in f v x (k ∷ []) same one = let first : v ≡ f k = cc in rw one first
right_in f v x (k ∷ l ∷ ks) same one =
    let first : v ≡ f k = cc in
    ⊎_elim (λ (e : x ≡ k). rw e first) (λ (o : OneOf (l ∷ ks) x). right_in f v x (l ∷ ks) (cc) o) one

-- If the arms give what the function does, so does the arm of a number.
pub arm_right : {V A : Type 0} (value : V → A) (f : ℕ → A) (v : V) (arms : List (Arm V)) → given value arms ≡ wanted f arms
    → (i x : ℕ) → OneOf (codes_at arms i) x → value (given_at v arms i) ≡ f x
arm_right value f v [] same i x one = absurd one
arm_right value f v (a ∷ arms) same zero x one = right_in f (value a.1) x a.0 (cc) one
arm_right value f v (a ∷ arms) same (suc i) x one = arm_right value f v arms (cc) i x one

-- ---- the last arm

abbrev in_arms : {V : Type 0} → ℕ → List (Arm V) → Bool
in_arms x [] = false
in_arms x (a ∷ arms) = cond (among x a.0) true (in_arms x arms)

not_one : (x : ℕ) (ks : List ℕ) → (OneOf ks x → ⊥) → among x ks ≡ false
not_one x [] none = refl
not_one x (k ∷ []) none = simp (ne_eqb x k none)
not_one x (k ∷ l ∷ ks) none = simp (ne_eqb x k (λ e. none (inl e))) (not_one x (l ∷ ks) (λ o. none (inr o)))

not_in : {V : Type 0} (x : ℕ) (arms : List (Arm V)) (T : Type 0) → Rest x arms T → T × (in_arms x arms ≡ false)
not_in x [] T rest = (rest, refl)
not_in x (a ∷ arms) T rest =
    let more = not_in x arms (T × (OneOf a.0 x → ⊥)) rest in
    (more.0.0, simp (not_one x a.0 more.0.1) more.1)

-- the function where there is no arm, and one value elsewhere
abbrev pub left : {V A : Type 0} → A → (ℕ → A) → List (Arm V) → ℕ → A
left v f arms x = cond (in_arms x arms) v (f x)

-- If that is one value below a bound, a number below it that has no arm gives that value.
pub last_right : {V A : Type 0} (v : A) (f : ℕ → A) (arms : List (Arm V)) (n : ℕ) → values_below (left v f arms) n ≡ values_below (λ k. v) n
    → (x : ℕ) → x < n → Rest x arms (Unit {0}) → v ≡ f x
last_right v f arms n same x below rest =
    sym (agree (left v f arms) (λ k. v) n same x below) ∙ ap (λ (t : Bool). cond t v (f x)) (not_in x arms (Unit {0}) rest).1
