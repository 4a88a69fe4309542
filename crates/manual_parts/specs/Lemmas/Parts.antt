-- A long run with idle lines in parts: after each part, the whole run is what was made and the run of what is left.
use Rattle.std.specs.Prelude.{ℕ, ◌+◌, ◌-◌, ◌≤◌, ◌≡◌, refl, Bool, true, false, List, eqb}
use Rattle.std.proofs.Common.{ap, sym, ◌∙◌, arith, eqb-true}
use Rattle.std.proofs.lemmas.Bool.{eqb-false}
use Rattle.manual.specs.declared.Machine.{Machine}
use Rattle.manual.specs.declared.Ended.{Ended}
use Rattle.manual.specs.declared.Reason.TheVariants.{Made, MemoryNotFull}
use Rattle.manual.specs.Micro.{exec, Gives}
use Rattle.manual.specs.Outcomes.{ended}
use Rattle.manual.specs.Interrupts.{idle}
use Rattle.manual.specs.Stepping.{full_memory, long_run}
use Rattle.manual.proofs.Lemmas.StepLaws.{long_short, long_whole}
use Rattle.manual.proofs.Theorems.RunAnswers.{Ends, all_made_lem, no_cycle_room_lem, not_an_opcode_lem, run_ends}
use Rattle.manual.proofs.Theorems.Lunch.{added, added_none, added_twice, full_lunch, full_stopped}

made_all : {k : ℕ} {s : Machine} {m : List ℕ} {q : Ended} {m' : List ℕ} → Ends k idle s m q m' → q.reason ≡ Made → q.steps ≡ k
made_all (all_made_lem led) p = refl
made_all (no_cycle_room_lem l led r) p = let z : ◌≡◌ {A = ℕ} 0 1 = cc in absurd (omega arith)
made_all (not_an_opcode_lem l led r) p = let z : ◌≡◌ {A = ℕ} 0 1 = cc in absurd (omega arith)

at_most : {k : ℕ} {s : Machine} {m : List ℕ} {q : Ended} {m' : List ℕ} → Ends k idle s m q m' → q.steps ≤ k
at_most (all_made_lem led) = omega arith
at_most (no_cycle_room_lem l led r) = omega arith
at_most (not_an_opcode_lem l led r) = omega arith

module _ (size k : ℕ) (s : Machine) (m : List ℕ) {q : Ended} {m' : List ℕ} (g : Gives (long_run size k idle s) m q m') where
  refused : (size ≡ full_memory → ⊥) → q ≡ ended MemoryNotFull 0 s
  refused f = ap (λ w. w.0) (sym g ∙ long_short size k idle s m f)

  full : size ≡ full_memory → Ends k idle s m q m'
  full e = run_ends k idle s m (rw (long_whole size k idle s e) at g)

  steps_by : (t : Bool) → eqb size full_memory ≡ t → q.steps ≤ k
  steps_by true e = at_most (full (eqb-true size full_memory e))
  steps_by false e = rw (refused (eqb-false size full_memory e)) (omega arith)

  -- No more steps are made than were asked for.
  pub long_steps : q.steps ≤ k
  long_steps = steps_by (eqb size full_memory) refl

  module _ (n : ℕ) where
    lunch_by : (t : Bool) → eqb size full_memory ≡ t → q.reason ≡ Made
        → exec (long_run size (k + n) idle s) m ≡ added k (exec (long_run size n idle q.machine) m')
    lunch_by true e made =
        let whole = eqb-true size full_memory e in
        rw (long_whole size (k + n) idle s whole, long_whole size n idle q.machine whole)
        (rw (made_all (full whole) made) at (full_lunch k n idle s m (rw (long_whole size k idle s whole) at g) made))
    lunch_by false e made =
        let other = ap (λ (p : Ended). p.reason) (refused (eqb-false size full_memory e)) in
        let z : ◌≡◌ {A = ℕ} 0 1 = cc in absurd (omega arith)

    -- A part that was made, and the rest.
    pub long_lunch : q.reason ≡ Made → exec (long_run size (k + n) idle s) m ≡ added k (exec (long_run size n idle q.machine) m')
    long_lunch = lunch_by (eqb size full_memory) refl

    stopped_by : (t : Bool) → eqb size full_memory ≡ t → (q.reason ≡ Made → ⊥) → Gives (long_run size (k + n) idle s) m q m'
    stopped_by true e f =
        let whole = eqb-true size full_memory e in
        rw (long_whole size (k + n) idle s whole) (full_stopped k n idle s m (rw (long_whole size k idle s whole) at g) f)
    stopped_by false e f =
        let other = eqb-false size full_memory e in
        long_short size (k + n) idle s m other ∙ sym (long_short size k idle s m other) ∙ g

    -- A part that was stopped is the whole.
    pub long_stopped : (q.reason ≡ Made → ⊥) → Gives (long_run size (k + n) idle s) m q m'
    long_stopped = stopped_by (eqb size full_memory) refl

-- ---- the loop

-- what the whole run gives, if j steps are made and n are left from here
abbrev pub Whole : Ended × List ℕ → ℕ → ℕ → ℕ → Machine → List ℕ → Type 0
Whole w j size n s m = w ≡ added j (exec (long_run size n idle s) m)

-- before the first part
pub begun : (size n : ℕ) (s : Machine) (m : List ℕ) → Whole (exec (long_run size n idle s) m) 0 size (n - 0) s m
begun size n s m = let all : n - 0 ≡ n = omega arith in rw all (added_none (exec (long_run size n idle s) m))

module _ {w : Ended × List ℕ} (j size steps k : ℕ) (s : Machine) (m : List ℕ) {q : Ended} {m' : List ℕ}
    (h : Whole w j size (steps - j) s m) (fits : k ≤ steps - j) (g : Gives (long_run size k idle s) m q m') where
  abbrev rest : ℕ
  rest = steps - (j + k)

  split : steps - j ≡ k + rest
  split = omega arith

  -- the next part was made
  pub turn : {size' : ℕ} → size' ≡ size → q.reason ≡ Made → Whole w (j + k) size' rest q.machine m'
  turn {size'} e made =
      rw e
      (h
      ∙ ap (λ (i : ℕ). added j (exec (long_run size i idle s) m)) split
      ∙ ap (added j) (long_lunch size k s m g rest made)
      ∙ added_twice j k (exec (long_run size rest idle q.machine) m'))

  -- it was stopped
  pub halt : (q.reason ≡ Made → ⊥) → w ≡ added j (q, m')
  halt f = h ∙ ap (λ (i : ℕ). added j (exec (long_run size i idle s) m)) split ∙ ap (added j) (long_stopped size k s m g rest f)
