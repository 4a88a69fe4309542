-- When a status is 0: only if what was asked for is done.
use Rattle.std.specs.Prelude.{ℕ, ◌≡◌, refl, Bool, List, [], ◌∷◌, eqb}
use Rattle.std.proofs.Math.Bool.{true, false}
use Rattle.std.proofs.Common.{arith, eqb-true, ne_eqb}
use Rattle.std.proofs.lemmas.Bool.{eqb-false}
use Rattle.laws.specs.Answers.{not_refused, not_an_opcode}
use Rattle.manual.specs.declared.Ended.{Ended}
use Rattle.manual.specs.Outcomes.{number}
use Rattle.statuses.specs.declared.Goal.{Goal}
use Rattle.statuses.specs.declared.Goal.TheVariants.{At}
use Rattle.statuses.specs.Statuses.{reached, end_status, rescue_status, log_status, first_of}

module _ (goal : Goal) (q : Ended) where
  by_goal : (t u : Bool) → reached goal q ≡ t → eqb (number q.reason) not_refused ≡ u → end_status goal q ≡ 0 → reached goal q ≡ true
  unfolding end_status
  by_goal true u e f h = e
  by_goal false true e f h = absurd (omega (arith, rw (e, f) at h))
  by_goal false false e f h = absurd (eqb-false (number q.reason) not_refused f (rw (e, f) at h))

  -- A run's status is 0 only if it ended as it was meant to.
  pub only_where_reached : end_status goal q ≡ 0 → reached goal q ≡ true
  only_where_reached = by_goal (reached goal q) (eqb (number q.reason) not_refused) refl refl

-- With an address: it met a byte that is no opcode, and there.
pub only_at : (address : ℕ) (q : Ended) → end_status (At address) q ≡ 0 → (number q.reason ≡ not_an_opcode) × (q.machine.registers.counter ≡ address)
unfolding reached
only_at address q h = by_tests (eqb (number q.reason) not_an_opcode) (eqb q.machine.registers.counter address) refl refl (only_where_reached (At address) q h)
  where
    by_tests : (t u : Bool) → eqb (number q.reason) not_an_opcode ≡ t → eqb q.machine.registers.counter address ≡ u → reached (At address) q ≡ true
        → (number q.reason ≡ not_an_opcode) × (q.machine.registers.counter ≡ address)
    by_tests true true e f g = (eqb-true (number q.reason) not_an_opcode e, eqb-true q.machine.registers.counter address f)
    by_tests true false e f g = let z : false ≡ true = rw (e, f) at g in absurd (let y : ◌≡◌ {A = ℕ} 0 1 = cc in omega arith)
    by_tests false u e f g = let z : false ≡ true = rw e at g in absurd (let y : ◌≡◌ {A = ℕ} 0 1 = cc in omega arith)

-- A rescue's status is 0 only if it was not refused, nothing was dropped, and the old tape is one that is read.
pub only_whole : (answer dropped read : ℕ) → rescue_status answer dropped read ≡ 0 → (answer ≡ 0) × (dropped ≡ 0) × (read ≡ 0)
only_whole answer dropped read h = by_tests (eqb answer not_refused) (eqb dropped 0) refl refl h
  where
    by_tests : (t u : Bool) → eqb answer not_refused ≡ t → eqb dropped 0 ≡ u → rescue_status answer dropped read ≡ 0
        → (answer ≡ 0) × (dropped ≡ 0) × (read ≡ 0)
    by_tests true true e f g = (eqb-true answer not_refused e, eqb-true dropped 0 f, rw (e, f) at g)
    by_tests true false e f g = absurd (omega (arith, rw (e, f) at g))
    by_tests false u e f g = absurd (eqb-false answer not_refused e (rw e at g))

-- A log's status is 0 only if the image is whole, every entry was accepted, and there is one.
pub only_accepted : (size answer lines : ℕ) → log_status size answer lines ≡ 0 → (size ≡ 65536) × (answer ≡ 0) × (lines ≡ 0 → ⊥)
only_accepted size answer lines h = by_tests (eqb size 65536) (eqb answer not_refused) (eqb lines 0) refl refl refl h
  where
    by_tests : (t u v : Bool) → eqb size 65536 ≡ t → eqb answer not_refused ≡ u → eqb lines 0 ≡ v → log_status size answer lines ≡ 0
        → (size ≡ 65536) × (answer ≡ 0) × (lines ≡ 0 → ⊥)
    by_tests true true false e f d g = (eqb-true size 65536 e, eqb-true answer not_refused f, eqb-false lines 0 d)
    by_tests true true true e f d g = absurd (omega (arith, rw (e, f, d) at g))
    by_tests true false v e f d g = absurd (eqb-false answer not_refused f (rw (e, f) at g))
    by_tests false u v e f d g = absurd (omega (arith, rw e at g))

-- what a program that works through a list hands over
abbrev pub first_of_all : ℕ → List ℕ → ℕ
first_of_all before [] = before
first_of_all before (now ∷ later) = first_of_all (first_of before now) later

-- A status that is not 0 stays, whatever comes later.
pub kept : (before : ℕ) (later : List ℕ) → (before ≡ 0 → ⊥) → first_of_all before later ≡ before
kept before [] h = refl
kept before (now ∷ later) h = rw (ne_eqb before 0 h) (kept before later h)
