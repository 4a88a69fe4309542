-- A run in two parts (P12): whoever halts a run and goes on later from the state that it left has what the whole run gives, and the steps
-- of the two add up; the levels of the lines are the same throughout. A run that was stopped in its first part is the whole run.
use Rattle.std.specs.Prelude.{ℕ, zero, suc, ◌+◌, ◌≤◌, ◌≡◌, refl, Bool, true, false, cond, List, length}
use Rattle.std.proofs.Common.{ap, sym, ◌∙◌, arith}
use Rattle.std.proofs.Math.Decide.{ℕ_discrete}
use Rattle.manual.specs.declared.Lines.{Lines}
use Rattle.manual.specs.declared.Machine.{Machine}
use Rattle.manual.specs.declared.Ended.{Ended}
use Rattle.manual.specs.declared.Reason.{Reason}
use Rattle.manual.specs.declared.Reason.TheVariants.{Made, MemoryNotFull}
use Rattle.manual.specs.Micro.{Micro, done, exec, Gives}
use Rattle.manual.specs.Outcomes.{is_made, ended}
use Rattle.manual.specs.Stepping.{full_memory, highest_bound, step_full, run_while, run_full, run, long_run}
use Rattle.manual.specs.Lemmas.Programs.{exec_bind, exec_length}
use Rattle.manual.proofs.Lemmas.StepLaws.{run_short, run_whole, long_short, long_whole}
use Rattle.manual.proofs.Theorems.RunAnswers.{Ends, all_made_lem, no_cycle_room_lem, not_an_opcode_lem, run_after_lem, ends_run, run_ends, RunTable, ran, memory_not_full_lem, bound_too_high_lem, run_answers}

-- what a run gives, with so many steps counted before it
abbrev pub added : ℕ → Ended × List ℕ → Ended × List ℕ
added j w = (ended w.0.reason (j + w.0.steps) w.0.machine, w.1)

-- no step before, and so many before and so many more
pub added_none : (w : Ended × List ℕ) → w ≡ added 0 w
added_none w = let e : w.0.steps ≡ 0 + w.0.steps = omega arith in ap (λ (c : ℕ). (ended w.0.reason c w.0.machine, w.1)) e

pub added_twice : (j k : ℕ) (w : Ended × List ℕ) → added j (added k w) ≡ added (j + k) w
added_twice j k w = let e : j + (k + w.0.steps) ≡ j + k + w.0.steps = omega arith in ap (λ (c : ℕ). (ended w.0.reason c w.0.machine, w.1)) e

-- the count goes on from where it begins
counted_on : (n j k : ℕ) (lines : Lines) (s : Machine) (m : List ℕ) → exec (run_full n (j + k) lines s) m ≡ added j (exec (run_full n k lines s) m)
unfolding run_full run_while
counted_on zero j k lines s m = refl
counted_on (suc n) j k lines s m =
    let w = exec (step_full lines s) m in
    exec_bind (step_full lines s) _ m ∙ go (is_made w.0.reason) w.0.reason w.0.machine w.1 (counted_on n j (k + 1) lines w.0.machine w.1) ∙ ap (added j) (sym (exec_bind (step_full lines s) _ m))
  where
    go : (t : Bool) (r : Reason) (q : Machine) (e : List ℕ) → exec (run_full n (j + (k + 1)) lines q) e ≡ added j (exec (run_full n (k + 1) lines q) e)
        → exec (cond t (run_full n (j + k + 1) lines q) (done (ended r (j + k) q))) e ≡ added j (exec (cond t (run_full n (k + 1) lines q) (done (ended r k q))) e)
    go true r q e h = let same : j + k + 1 ≡ j + (k + 1) = omega arith in rw same h
    go false r q e h = refl

-- ---- on a full memory, with any number of steps

module _ (k n : ℕ) (lines : Lines) (s : Machine) (m : List ℕ) where
  went_on : {q : Ended} {m' : List ℕ} → Ends k lines s m q m' → q.reason ≡ Made
      → exec (run_full (k + n) 0 lines s) m ≡ added q.steps (exec (run_full n 0 lines q.machine) m')
  went_on (all_made_lem {s'} {m'} led) p =
      let begins : 0 + k ≡ k + 0 = omega arith in
      run_after_lem k n 0 lines s m s' m' led ∙ ap (λ (c : ℕ). exec (run_full n c lines s') m') begins ∙ counted_on n k 0 lines s' m'
  went_on (no_cycle_room_lem l led r) p = let z : ◌≡◌ {A = ℕ} 0 1 = cc in absurd (omega arith)
  went_on (not_an_opcode_lem l led r) p = let z : ◌≡◌ {A = ℕ} 0 1 = cc in absurd (omega arith)

  was_stopped : {q : Ended} {m' : List ℕ} → Ends k lines s m q m' → (q.reason ≡ Made → ⊥) → Gives (run_full (k + n) 0 lines s) m q m'
  was_stopped (all_made_lem led) f = absurd (f refl)
  was_stopped (no_cycle_room_lem {k = j} l led r) f = ends_run (k + n) lines s m (no_cycle_room_lem {k = j} (omega arith) led r)
  was_stopped (not_an_opcode_lem {k = j} l led r) f = ends_run (k + n) lines s m (not_an_opcode_lem {k = j} (omega arith) led r)

  pub full_lunch : {q : Ended} {m' : List ℕ} → Gives (run_full k 0 lines s) m q m' → q.reason ≡ Made
      → exec (run_full (k + n) 0 lines s) m ≡ added q.steps (exec (run_full n 0 lines q.machine) m')
  full_lunch g p = went_on (run_ends k lines s m g) p

  pub full_stopped : {q : Ended} {m' : List ℕ} → Gives (run_full k 0 lines s) m q m' → (q.reason ≡ Made → ⊥) → Gives (run_full (k + n) 0 lines s) m q m'
  full_stopped g f = was_stopped (run_ends k lines s m g) f

-- ---- P12

not_made_short : MemoryNotFull ≡ Made → ⊥
not_made_short e = let z : ◌≡◌ {A = ℕ} 0 1 = cc in omega arith

-- a run leaves a memory as long as it found it
stays_long : (p : Micro Ended) (m : List ℕ) {q : Ended} {m' : List ℕ} → Gives p m q m' → length m' ≡ length m
stays_long p m g = ap (λ (w : Ended × List ℕ). length w.1) (sym g) ∙ exec_length p m

module _ (k n : ℕ) (lines : Lines) (s : Machine) (m : List ℕ) (allowed : k + n ≤ highest_bound) where
  by_table : {q p : Ended} {m' m'' : List ℕ} → RunTable (length m) k lines s m q m' → q.reason ≡ Made → Gives (run (length m) n lines q.machine) m' p m''
      → Gives (run (length m) (k + n) lines s) m (ended p.reason (q.steps + p.steps) p.machine) m''
  by_table {q} {p} {m'} {m''} (ran a e) made g =
      rw (run_whole (length m) (k + n) lines s a.0 allowed)
      (full_lunch k n lines s m (ends_run k lines s m e) made ∙ ap (added q.steps) (rw (run_whole (length m) n lines q.machine a.0 (omega arith)) at g))
  by_table (memory_not_full_lem f) made g = let z : ◌≡◌ {A = ℕ} 0 1 = cc in absurd (omega arith)
  by_table (bound_too_high_lem e l) made g = let z : ◌≡◌ {A = ℕ} 0 1 = cc in absurd (omega arith)

  -- If the first part answered 0, the two parts are the whole: same reason, machine and memory, and the steps add up.
  pub lunch : {q p : Ended} {m' m'' : List ℕ} → Gives (run (length m) k lines s) m q m' → q.reason ≡ Made
      → Gives (run (length m') n lines q.machine) m' p m''
      → Gives (run (length m) (k + n) lines s) m (ended p.reason (q.steps + p.steps) p.machine) m''
  lunch g made h = by_table ((run_answers (length m) k lines s m).0 g) made (rw (stays_long (run (length m) k lines s) m g) at h)

  by_refusal : {q : Ended} {m' : List ℕ} → RunTable (length m) k lines s m q m' → (q.reason ≡ Made → ⊥) → Gives (run (length m) (k + n) lines s) m q m'
  by_refusal (ran a e) f = rw (run_whole (length m) (k + n) lines s a.0 allowed) (full_stopped k n lines s m (ends_run k lines s m e) f)
  by_refusal (memory_not_full_lem f) g = run_short (length m) (k + n) lines s m f
  by_refusal (bound_too_high_lem e l) f = absurd (omega arith)

  -- If the first part was stopped, its whole answer is the long run's.
  pub stopped_before_lunch : {q : Ended} {m' : List ℕ} → Gives (run (length m) k lines s) m q m' → (q.reason ≡ Made → ⊥) → Gives (run (length m) (k + n) lines s) m q m'
  stopped_before_lunch g f = by_refusal ((run_answers (length m) k lines s m).0 g) f

-- likewise of runs of any number of steps
module _ (k n : ℕ) (lines : Lines) (s : Machine) (m : List ℕ) {q : Ended} {m' : List ℕ} (g : Gives (long_run (length m) k lines s) m q m') where
  pub long_lunch : {p : Ended} {m'' : List ℕ} → q.reason ≡ Made → Gives (long_run (length m') n lines q.machine) m' p m''
      → Gives (long_run (length m) (k + n) lines s) m (ended p.reason (q.steps + p.steps) p.machine) m''
  long_lunch {p} {m''} made h = by_size (ℕ_discrete (length m) full_memory)
    where
      by_size : Dec (length m ≡ full_memory) → Gives (long_run (length m) (k + n) lines s) m (ended p.reason (q.steps + p.steps) p.machine) m''
      by_size (yes e) =
          let f : length m' ≡ full_memory = stays_long (long_run (length m) k lines s) m g ∙ e in
          rw (long_whole (length m) (k + n) lines s e)
          (full_lunch k n lines s m (rw (long_whole (length m) k lines s e) at g) made
          ∙ ap (added q.steps) (rw (long_whole (length m') n lines q.machine f) at h))
      by_size (no f) = absurd (not_made_short (ap (λ (w : Ended × List ℕ). w.0.reason) (sym (long_short (length m) k lines s m f) ∙ g) ∙ made))

  pub long_stopped_before_lunch : (q.reason ≡ Made → ⊥) → Gives (long_run (length m) (k + n) lines s) m q m'
  long_stopped_before_lunch f = by_size (ℕ_discrete (length m) full_memory)
    where
      by_size : Dec (length m ≡ full_memory) → Gives (long_run (length m) (k + n) lines s) m q m'
      by_size (yes e) = rw (long_whole (length m) (k + n) lines s e) (full_stopped k n lines s m (rw (long_whole (length m) k lines s e) at g) f)
      by_size (no f) = long_short (length m) (k + n) lines s m f ∙ sym (long_short (length m) k lines s m f) ∙ g
