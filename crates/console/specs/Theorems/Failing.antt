-- A failure that was noted stays: the cell goes on holding the first one.
use Rattle.std.specs.Prelude.{ℕ, ◌≡◌, refl, Bool, true, false, cond, eqb}
use Rattle.std.proofs.Common.{sym, ◌∙◌, ne_eqb, eqb-true}
use Rattle.std.proofs.lemmas.Bool.{eqb-false}
use Rattle.statuses.specs.Statuses.{first_of}
use Rattle.console.specs.Failing.{FailureStays}

-- One piece of work after another.
pub stays_on : {a b c : ℕ} → FailureStays a b → FailureStays b c → FailureStays a c
stays_on s t h = t (λ z. h (sym (s h) ∙ z)) ∙ s h

-- What is noted is there.
pub noted : (before status : ℕ) → (status ≡ 0 → ⊥) → first_of before status ≡ 0 → ⊥
noted before status h = by_test (eqb before 0) refl
  where
    by_test : (t : Bool) → eqb before 0 ≡ t → cond t status before ≡ 0 → ⊥
    by_test true e z = h z
    by_test false e z = eqb-false before 0 e z

-- A later failure is noted only if there was none.
pub stays_noted : (before status : ℕ) → FailureStays before (first_of before status)
stays_noted before status h = rw (ne_eqb before 0 h)

-- If nothing is noted, neither had failed.
pub none_noted : (before status : ℕ) → first_of before status ≡ 0 → (before ≡ 0) × (status ≡ 0)
none_noted before status = by_test (eqb before 0) refl
  where
    by_test : (t : Bool) → eqb before 0 ≡ t → cond t status before ≡ 0 → (before ≡ 0) × (status ≡ 0)
    by_test true e z = (eqb-true before 0 e, z)
    by_test false e z = absurd (eqb-false before 0 e z)

-- If nothing is noted in the end, nothing had failed before.
pub none_before : (before : ℕ) {after : ℕ} → FailureStays before after → after ≡ 0 → before ≡ 0
none_before before {after} stays z = by_test (eqb before 0) refl
  where
    by_test : (t : Bool) → eqb before 0 ≡ t → before ≡ 0
    by_test true e = eqb-true before 0 e
    by_test false e = sym (stays (eqb-false before 0 e)) ∙ z

-- Once something is noted, no later status counts.
pub same_noted : (before : ℕ) {a b : ℕ} → (before ≡ 0 → a ≡ b) → first_of before a ≡ first_of before b
same_noted before {a} {b} h = by_test (eqb before 0) refl
  where
    by_test : (t : Bool) → eqb before 0 ≡ t → cond t a before ≡ cond t b before
    by_test true e = h (eqb-true before 0 e)
    by_test false e = refl
