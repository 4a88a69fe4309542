-- The answer table (docs/RULES.md) for a run: when each answer is given, the steps that are counted with it, and what is left behind.
use Rattle.std.specs.Prelude.{ℕ, zero, suc, ◌+◌, ◌-◌, ◌≤◌, ◌<◌, ◌≡◌, refl, ◌↔◌, List}
use Rattle.std.proofs.Common.{ap, sym, ◌∙◌, subst, arith}
use Rattle.std.proofs.Math.Decide.{dec_lt, ℕ_discrete}
use Rattle.manual.specs.declared.Lines.{Lines}
use Rattle.manual.specs.declared.Machine.{Machine}
use Rattle.manual.specs.declared.Stepped.{Stepped}
use Rattle.manual.specs.declared.Ended.{Ended}
use Rattle.manual.specs.declared.Reason.{Reason}
use Rattle.manual.specs.declared.Reason.TheVariants.{Made, MemoryNotFull, NoCycleRoom, NotAnOpcode, BoundTooHigh}
use Rattle.manual.specs.Micro.{exec, Gives}
use Rattle.manual.specs.Outcomes.{refused, ended}
use Rattle.manual.specs.Stepping.{full_memory, highest_bound, step_full, run_full, run, long_run}
use Rattle.manual.proofs.Lemmas.StepLaws.{step_late, step_serves, step_undefined, step_defined, run_short, run_long, run_whole, long_short, long_whole, run_end, run_more, run_stop}
use Rattle.manual.proofs.Theorems.Answers.{NoRoom, NoOpcode, Way, late, serves, undefined, ready, way}

-- k steps of the definition, each of them made, lead from the machine s and the memory m to s' and m'
abbrev pub Leads : ℕ → Lines → Machine → List ℕ → Machine → List ℕ → Type 0
Leads zero lines s m s' m' = (s ≡ s') × (m ≡ m')
Leads (suc k) lines s m s' m' =
    (q : Stepped) × (m₁ : List ℕ) × Gives (step_full lines s) m q m₁ × (q.reason ≡ Made) × Leads k lines q.machine m₁ s' m'

-- How a run of n steps ends on a full memory: the answer, the count and the machine, and the memory.
pub data Ends (n : ℕ) (lines : Lines) (s : Machine) (m : List ℕ) : Ended → List ℕ → Type 0 where
  -- 0, with every step made
  all_made_lem : {s' : Machine} {m' : List ℕ} → Leads n lines s m s' m' → Ends n lines s m (ended Made n s') m'
  -- 2 and 3, with fewer: the next one is refused in the state that they lead to
  no_cycle_room_lem : {k : ℕ} {s' : Machine} {m' : List ℕ} → k < n → Leads k lines s m s' m' → NoRoom s' → Ends n lines s m (ended NoCycleRoom k s') m'
  not_an_opcode_lem : {k : ℕ} {s' : Machine} {m' : List ℕ} → k < n → Leads k lines s m s' m' → NoOpcode lines s' m' → Ends n lines s m (ended NotAnOpcode k s') m'

-- the memory is full and the bound is allowed
abbrev pub Allowed : ℕ → ℕ → Type 0
Allowed size bound = (size ≡ full_memory) × (bound ≤ highest_bound)

-- The table: what a run answers and leaves.
pub data RunTable (size bound : ℕ) (lines : Lines) (s : Machine) (m : List ℕ) : Ended → List ℕ → Type 0 where
  -- 0, 2 and 3
  ran : {q : Ended} {m' : List ℕ} → Allowed size bound → Ends bound lines s m q m' → RunTable size bound lines s m q m'
  -- 1 and 4, with no step made and nothing changed
  memory_not_full_lem : (size ≡ full_memory → ⊥) → RunTable size bound lines s m (ended MemoryNotFull 0 s) m
  bound_too_high_lem : size ≡ full_memory → highest_bound < bound → RunTable size bound lines s m (ended BoundTooHigh 0 s) m

-- A run of k + n steps of which the first k are made is the run of the other n, from the state that they lead to.
pub run_after_lem : (k n j : ℕ) (lines : Lines) (s : Machine) (m : List ℕ) (s' : Machine) (m' : List ℕ) → Leads k lines s m s' m'
    → exec (run_full (k + n) j lines s) m ≡ exec (run_full n (j + k) lines s') m'
run_after_lem zero n j lines s m s' m' h =
    let e : 0 + n ≡ n = omega arith in
    let f : j + 0 ≡ j = omega arith in
    rw (e, f, h.0, h.1)
run_after_lem (suc k) n j lines s m s' m' h =
    let e : suc k + n ≡ suc (k + n) = omega arith in
    let f : j + suc k ≡ j + 1 + k = omega arith in
    rw (e, f) (run_more lines s m h.0 h.1 h.2 (k + n) j h.3 ∙ run_after_lem k n (j + 1) lines h.0.machine h.1 s' m' h.4)

-- all steps made, or stopped by a refusal after k of them
pub run_all : (n : ℕ) (lines : Lines) (s : Machine) (m : List ℕ) (s' : Machine) (m' : List ℕ) → Leads n lines s m s' m' → Gives (run_full n 0 lines s) m (ended Made n s') m'
run_all n lines s m s' m' h =
    let e : n + 0 ≡ n = omega arith in
    let f : 0 + n ≡ n = omega arith in
    ap (λ (x : ℕ). exec (run_full x 0 lines s) m) (sym e)
    ∙ run_after_lem n 0 0 lines s m s' m' h
    ∙ run_end (0 + n) lines s' m'
    ∙ ap (λ (x : ℕ). (ended Made x s', m')) f

pub run_stopped : (n k : ℕ) (r : Reason) (lines : Lines) (s : Machine) (m : List ℕ) (s' : Machine) (m' : List ℕ) → k < n → Leads k lines s m s' m' → (r ≡ Made → ⊥)
    → Gives (step_full lines s') m' (refused r s') m' → Gives (run_full n 0 lines s) m (ended r k s') m'
run_stopped n k r lines s m s' m' l h f g =
    let e : k + suc (n - suc k) ≡ n = omega arith in
    let z : 0 + k ≡ k = omega arith in
    ap (λ (x : ℕ). exec (run_full x 0 lines s) m) (sym e)
    ∙ run_after_lem k (suc (n - suc k)) 0 lines s m s' m' h
    ∙ run_stop lines s' m' (refused r s') m' g (n - suc k) (0 + k) f
    ∙ ap (λ (x : ℕ). (ended r x s', m')) z

-- Whatever ends so is what a run on a full memory gives.
pub ends_run : (n : ℕ) (lines : Lines) (s : Machine) (m : List ℕ) {q : Ended} {m' : List ℕ} → Ends n lines s m q m' → Gives (run_full n 0 lines s) m q m'
ends_run n lines s m (all_made_lem {s'} {m'} h) = run_all n lines s m s' m' h
ends_run n lines s m (no_cycle_room_lem {k} {s'} {m'} l h r) =
    run_stopped n k NoCycleRoom lines s m s' m' l h (λ p. let z : ◌≡◌ {A = ℕ} 0 1 = cc in omega arith) (step_late lines s' m' r)
ends_run n lines s m (not_an_opcode_lem {k} {s'} {m'} l h r) =
    run_stopped n k NotAnOpcode lines s m s' m' l h (λ p. let z : ◌≡◌ {A = ℕ} 0 1 = cc in omega arith) (step_undefined lines s' m' r.0 r.1 r.2)

-- ---- every run ends so

abbrev Ending : ℕ → Lines → Machine → List ℕ → Type 0
Ending n lines s m = (q : Ended) × (m' : List ℕ) × Ends n lines s m q m'

module _ (n : ℕ) (lines : Lines) (s : Machine) (m : List ℕ) (r : (exec (step_full lines s) m).0.reason ≡ Made) where
  abbrev next : Stepped
  next = (exec (step_full lines s) m).0

  -- one step more before those that lead from the next machine
  led : (k : ℕ) (s' : Machine) (m' : List ℕ) → Leads k lines next.machine (exec (step_full lines s) m).1 s' m' → Leads (suc k) lines s m s' m'
  led k s' m' h =
      (next, (exec (step_full lines s) m).1, refl, r, h)

  one_more : {q : Ended} {m' : List ℕ} → Ends n lines next.machine (exec (step_full lines s) m).1 q m' → Ending (suc n) lines s m
  one_more (all_made_lem h) = (_, _, all_made_lem (led n _ _ h))
  one_more (no_cycle_room_lem {k} l h f) = (_, _, no_cycle_room_lem {k = suc k} (omega arith) (led k _ _ h) f)
  one_more (not_an_opcode_lem {k} l h f) = (_, _, not_an_opcode_lem {k = suc k} (omega arith) (led k _ _ h) f)

ending : (n : ℕ) (lines : Lines) (s : Machine) (m : List ℕ) → Ending n lines s m
ending zero lines s m = (_, _, all_made_lem (refl, refl))
ending (suc n) lines s m = go (way lines s m) (ending n lines (exec (step_full lines s) m).0.machine (exec (step_full lines s) m).1)
  where
    reason : Stepped × List ℕ → Reason
    reason w = w.0.reason

    go : Way lines s m → Ending n lines (exec (step_full lines s) m).0.machine (exec (step_full lines s) m).1 → Ending (suc n) lines s m
    go (late h) w = (_, _, no_cycle_room_lem {k = 0} (omega arith) (refl, refl) h)
    go (undefined h) w = (_, _, not_an_opcode_lem {k = 0} (omega arith) (refl, refl) h)
    go (serves h) w = one_more n lines s m (ap reason (step_serves lines s m h.1.0 h.0 h.1.1 refl)) w.2
    go (ready h) w = one_more n lines s m (ap reason (step_defined lines s m h.2.0 h.0 h.1 h.2.1 refl)) w.2

-- what a program gives is one thing
pub same : {A : Type 0} {w : A × List ℕ} (P : A → List ℕ → Type 0) {q p : A} {m' m₀ : List ℕ} → w ≡ (p, m₀) → P p m₀ → w ≡ (q, m') → P q m'
same P e h g = subst (λ (w : _ × List ℕ). P w.0 w.1) (sym e ∙ g) h

-- A run on a full memory gives what ends so, and nothing else.
pub run_ends : (n : ℕ) (lines : Lines) (s : Machine) (m : List ℕ) {q : Ended} {m' : List ℕ} → Gives (run_full n 0 lines s) m q m' → Ends n lines s m q m'
run_ends n lines s m g = let e = ending n lines s m in same (Ends n lines s m) (ends_run n lines s m e.2) e.2 g

-- A run gives what the table says, and whatever the table says is what the run gives.
pub run_answers : (size bound : ℕ) (lines : Lines) (s : Machine) (m : List ℕ) {q : Ended} {m' : List ℕ}
    → Gives (run size bound lines s) m q m' ↔ RunTable size bound lines s m q m'
run_answers size bound lines s m = (given, gives)
  where
    gives : {q : Ended} {m' : List ℕ} → RunTable size bound lines s m q m' → Gives (run size bound lines s) m q m'
    gives (ran a h) = rw (run_whole size bound lines s a.0 a.1) (ends_run bound lines s m h)
    gives (memory_not_full_lem f) = run_short size bound lines s m f
    gives (bound_too_high_lem e l) = run_long size bound lines s m e l

    allowed : {q : Ended} {m' : List ℕ} → size ≡ full_memory → Dec (highest_bound < bound) → Gives (run size bound lines s) m q m' → RunTable size bound lines s m q m'
    allowed e (yes l) g = same (RunTable size bound lines s m) (run_long size bound lines s m e l) (bound_too_high_lem e l) g
    allowed e (no n) g = ran (e, omega arith) (run_ends bound lines s m (rw (run_whole size bound lines s e (omega arith)) at g))

    memory : {q : Ended} {m' : List ℕ} → Dec (size ≡ full_memory) → Gives (run size bound lines s) m q m' → RunTable size bound lines s m q m'
    memory (yes e) g = allowed e (dec_lt highest_bound bound) g
    memory (no f) g = same (RunTable size bound lines s m) (run_short size bound lines s m f) (memory_not_full_lem f) g

    given : {q : Ended} {m' : List ℕ} → Gives (run size bound lines s) m q m' → RunTable size bound lines s m q m'
    given g = memory (ℕ_discrete size full_memory) g

-- The table of a run of any number of steps: as that of a run, but for 4.
pub data LongTable (size bound : ℕ) (lines : Lines) (s : Machine) (m : List ℕ) : Ended → List ℕ → Type 0 where
  long_ran : {q : Ended} {m' : List ℕ} → size ≡ full_memory → Ends bound lines s m q m' → LongTable size bound lines s m q m'
  long_not_full : (size ≡ full_memory → ⊥) → LongTable size bound lines s m (ended MemoryNotFull 0 s) m

pub long_run_answers : (size bound : ℕ) (lines : Lines) (s : Machine) (m : List ℕ) {q : Ended} {m' : List ℕ}
    → Gives (long_run size bound lines s) m q m' ↔ LongTable size bound lines s m q m'
long_run_answers size bound lines s m = (λ g. given (ℕ_discrete size full_memory) g, gives)
  where
    gives : {q : Ended} {m' : List ℕ} → LongTable size bound lines s m q m' → Gives (long_run size bound lines s) m q m'
    gives (long_ran e h) = rw (long_whole size bound lines s e) (ends_run bound lines s m h)
    gives (long_not_full f) = long_short size bound lines s m f

    given : {q : Ended} {m' : List ℕ} → Dec (size ≡ full_memory) → Gives (long_run size bound lines s) m q m' → LongTable size bound lines s m q m'
    given (yes e) g = long_ran e (run_ends bound lines s m (rw (long_whole size bound lines s e) at g))
    given (no f) g = same (LongTable size bound lines s m) (long_short size bound lines s m f) (long_not_full f) g
