-- A run by cycles (P11): the answer table, in which nothing is said of the number that makes the definition end; how many cycles it spends
-- and how many steps it makes; that it is a run of so many steps; the bytes that it reads, and demand 3.
use Rattle.std.specs.Prelude.{ℕ, zero, suc, ◌+◌, ◌*◌, ◌/◌, ◌≤◌, ◌<◌, ◌≡◌, ◌↔◌, Bool, cond, List, [], ltb, length}
use Rattle.std.proofs.Math.Path.{refl}
use Rattle.std.proofs.Common.{ap, sym, ◌∙◌, subst, arith}
use Rattle.std.proofs.Math.Decide.{dec_lt, ℕ_discrete}
use borrow.Author.Tests.{le-leb, lt-leb, lt-ltb, le-ltb, eq-eqb, ne_eqb}
use Rattle.instruction.specs.Theorems.Table.{table_rules}
use Rattle.manual.specs.declared.Lines.{Lines}
use Rattle.manual.specs.declared.Machine.{Machine}
use Rattle.manual.specs.declared.Stepped.{Stepped}
use Rattle.manual.specs.declared.Ended.{Ended}
use Rattle.manual.specs.declared.Reason.{Reason}
use Rattle.manual.specs.declared.Reason.TheVariants.{Made, MemoryNotFull, NoCycleRoom, NotAnOpcode, BoundTooHigh}
use Rattle.manual.specs.Micro.{exec, accesses, reads, stores, Gives}
use Rattle.manual.specs.Outcomes.{is_made, refused, ended}
use Rattle.manual.specs.Stepping.{full_memory, highest_bound, step_full, run_while, run, spend_full, run_cycles}
use Rattle.manual.specs.ReadList.{listed_run_cycles}
use Rattle.manual.specs.Lemmas.Programs.{either}
use Rattle.manual.proofs.Lemmas.StepLaws.{opcode_of, step_late, step_serves, step_undefined, step_defined, run_short, while_over, while_more, while_stop}
use Rattle.manual.proofs.Theorems.Answers.{NoRoom, NoOpcode, Way, late, serves, undefined, ready, way}
use Rattle.manual.proofs.Theorems.RunAnswers.{Leads, Ends, all_made_lem, no_cycle_room_lem as stopped-late, not_an_opcode_lem as stopped-undefined, Allowed, ran as run_Ran, run_answers, same}
use Rattle.manual.proofs.Lemmas.Extra.{extra_of}
use Rattle.manual.proofs.Theorems.Reads.{run_cycles_reads}
use Rattle.manual.proofs.Theorems.Sealed.{Differ, Unsealed, Kept, sealed}

-- ---- the cycles of a step

-- so many cycles on from a count: 2 to 7
abbrev pub StepCycles : ℕ → Stepped → Type 0
StepCycles from q = (from + 2 ≤ q.machine.cycles) × (q.machine.cycles ≤ from + 7)

-- A step that is made takes 2 to 7 cycles.
pub step_takes : (lines : Lines) (s : Machine) (m : List ℕ) {q : Stepped} {m' : List ℕ} → Gives (step_full lines s) m q m' → q.reason ≡ Made
    → StepCycles s.cycles q
step_takes lines s m g = go (way lines s m) g
  where
    IfMade : Stepped → List ℕ → Type 0
    IfMade q m' = q.reason ≡ Made → StepCycles s.cycles q

    go : Way lines s m → {q : Stepped} {m' : List ℕ} → Gives (step_full lines s) m q m' → IfMade q m'
    go (late h) g = same IfMade (step_late lines s m h) (λ e. let z : ◌≡◌ {A = ℕ} 0 1 = cc in absurd (omega arith)) g
    go (undefined h) g =
        same IfMade (step_undefined lines s m h.0 h.1 h.2) (λ e. let z : ◌≡◌ {A = ℕ} 0 1 = cc in absurd (omega arith)) g
    go (serves h) g = same IfMade (step_serves lines s m h.1.0 h.0 h.1.1 refl) (λ e. (omega arith, omega arith)) g
    go (ready h) g =
        let entry = h.2.0 in
        let rules = table_rules.ruled (opcode_of s m) entry h.2.1 in
        let extra = extra_of entry.instruction entry.mode s.registers m refl in
        same IfMade (step_defined lines s m entry h.0 h.1 h.2.1 refl)
        (λ e. (omega (arith, rules.cycles_least), omega (arith, rules.total_most, extra)))
        g

-- ---- the table

-- before each of the first k steps the cycle count is below `until`
abbrev pub Before : ℕ → ℕ → Lines → Machine → List ℕ → Type 0
Before k until lines s m = (j : ℕ) (s₁ : Machine) (m₁ : List ℕ) → j < k → Leads j lines s m s₁ m₁ → s₁.cycles < until

-- why no step is made from a state, and the reason that is given
pub data Stops (until : ℕ) (lines : Lines) (s : Machine) (m : List ℕ) : Reason → Type 0 where
  -- 0: the cycles are spent
  spent : until ≤ s.cycles → Stops until lines s m Made
  -- 2 and 3: they are not, and the next step is refused
  no_cycle_room_lem : s.cycles < until → NoRoom s → Stops until lines s m NoCycleRoom
  not_an_opcode_lem : s.cycles < until → NoOpcode lines s m → Stops until lines s m NotAnOpcode

-- how a run ends on a full memory: k steps are made, each from a count below `until`, and lead to a state from which none is
pub data Spends (until : ℕ) (lines : Lines) (s : Machine) (m : List ℕ) : Ended → List ℕ → Type 0 where
  ends : {k : ℕ} {s' : Machine} {m' : List ℕ} {r : Reason} → Leads k lines s m s' m' → Before k until lines s m → Stops until lines s' m' r
      → Spends until lines s m (ended r k s') m'

-- The table: what a run by cycles answers and leaves.
pub data CycleTable (size limit : ℕ) (lines : Lines) (s : Machine) (m : List ℕ) : Ended → List ℕ → Type 0 where
  -- 0, 2 and 3
  ran : {q : Ended} {m' : List ℕ} → Allowed size limit → Spends (s.cycles + limit) lines s m q m' → CycleTable size limit lines s m q m'
  -- 1 and 4, with no step made and nothing changed
  memory_not_full_lem : (size ≡ full_memory → ⊥) → CycleTable size limit lines s m (ended MemoryNotFull 0 s) m
  limit_too_high : size ≡ full_memory → highest_bound < limit → CycleTable size limit lines s m (ended BoundTooHigh 0 s) m

-- ---- the definition, a step at a time

-- the test of a run by cycles
abbrev below : ℕ → Machine → Bool
below until s = ltb s.cycles until

pub spend_over : (n until k : ℕ) (lines : Lines) (s : Machine) (m : List ℕ) → until ≤ s.cycles → Gives (spend_full n until k lines s) m (ended Made k s) m
unfolding spend_full
spend_over n until k lines s m h = while_over (below until) n k lines s m (le-ltb _ _ h)

module _ (lines : Lines) (s : Machine) (m : List ℕ) (q : Stepped) (m' : List ℕ) (g : Gives (step_full lines s) m q m') where
  pub spend_more : (n until k : ℕ) → s.cycles < until → q.reason ≡ Made
      → exec (spend_full (suc n) until k lines s) m ≡ exec (spend_full n until (k + 1) lines q.machine) m'
  unfolding spend_full
  spend_more n until k l h = while_more (below until) lines s m q m' g (lt-ltb _ _ l) n k h

  pub spend_refused : (n until k : ℕ) → s.cycles < until → (q.reason ≡ Made → ⊥)
      → Gives (spend_full (suc n) until k lines s) m (ended q.reason k q.machine) m'
  unfolding spend_full
  spend_refused n until k l h = while_stop (below until) lines s m q m' g (lt-ltb _ _ l) n k h

-- ---- the steps that are made, each with its test

abbrev LeadsUnder : ℕ → ℕ → Lines → Machine → List ℕ → Machine → List ℕ → Type 0
LeadsUnder zero until lines s m s' m' = (s ≡ s') × (m ≡ m')
LeadsUnder (suc k) until lines s m s' m' =
    (q : Stepped)
    × (m₁ : List ℕ)
    × (s.cycles < until)
    × Gives (step_full lines s) m q m₁
    × (q.reason ≡ Made)
    × LeadsUnder k until lines q.machine m₁ s' m'

under : (k until : ℕ) (lines : Lines) (s : Machine) (m : List ℕ) (s' : Machine) (m' : List ℕ) → Leads k lines s m s' m' → Before k until lines s m
    → LeadsUnder k until lines s m s' m'
under zero until lines s m s' m' h b = h
under (suc k) until lines s m s' m' (q, m₁, g, r, h) b = (
  q,
  m₁,
  b 0 s m (omega arith) (refl, refl),
  g,
  r,
  under k until lines q.machine m₁ s' m' h (λ j s₁ m₂ l led. b (suc j) s₁ m₂ (omega arith) (q, m₁, g, r, led)),
)

leads : (k until : ℕ) (lines : Lines) (s : Machine) (m : List ℕ) (s' : Machine) (m' : List ℕ) → LeadsUnder k until lines s m s' m' → Leads k lines s m s' m'
leads zero until lines s m s' m' h = h
leads (suc k) until lines s m s' m' (q, m₁, l, g, r, h) = (q, m₁, g, r, leads k until lines q.machine m₁ s' m' h)

-- a step leads to one state
before : (k until : ℕ) (lines : Lines) (s : Machine) (m : List ℕ) (s' : Machine) (m' : List ℕ) → LeadsUnder k until lines s m s' m' → Before k until lines s m
before zero until lines s m s' m' h j s₁ m₁ l led = absurd (omega arith)
before (suc k) until lines s m s' m' h zero s₁ m₁ l led = rw (← led.0) h.2
before (suc k) until lines s m s' m' (q, m₂, h, g, r, t) (suc j) s₁ m₁ l (q₁, m₃, g₁, r₁, led) =
    before k until lines q.machine m₂ s' m' t j s₁ m₁ (omega arith) (same (λ q m₂. Leads j lines q.machine m₂ s₁ m₁) g₁ led g)

-- ---- every run by cycles ends by the table

refusal : (n until k : ℕ) (r : Reason) (lines : Lines) (s : Machine) (m : List ℕ) → until ≤ s.cycles + n → s.cycles < until → (r ≡ Made → ⊥)
    → Gives (step_full lines s) m (refused r s) m → Gives (spend_full n until k lines s) m (ended r k s) m
refusal zero until k r lines s m e l f g = absurd (omega arith)
refusal (suc n) until k r lines s m e l f g = spend_refused lines s m (refused r s) m g n until k l f

-- if the number of steps that are left is high enough
stop_gives : (n until k : ℕ) (r : Reason) (lines : Lines) (s : Machine) (m : List ℕ) → until ≤ s.cycles + n → Stops until lines s m r
    → Gives (spend_full n until k lines s) m (ended r k s) m
stop_gives n until k r lines s m e (spent h) = spend_over n until k lines s m h
stop_gives n until k r lines s m e (no_cycle_room_lem l h) =
    refusal n until k NoCycleRoom lines s m e l (λ p. let z : ◌≡◌ {A = ℕ} 0 1 = cc in omega arith) (step_late lines s m h)
stop_gives n until k r lines s m e (not_an_opcode_lem l h) =
    refusal n until k NotAnOpcode lines s m e l (λ p. let z : ◌≡◌ {A = ℕ} 0 1 = cc in omega arith) (step_undefined lines s m h.0 h.1 h.2)

-- it stays so: a step takes a cycle or more
steps_give : (k n until j : ℕ) (r : Reason) (lines : Lines) (s : Machine) (m : List ℕ) (s' : Machine) (m' : List ℕ) → until ≤ s.cycles + n
    → LeadsUnder k until lines s m s' m' → Stops until lines s' m' r → Gives (spend_full n until j lines s) m (ended r (j + k) s') m'
steps_give zero n until j r lines s m s' m' e h stop =
    let none : j + 0 ≡ j = omega arith in
    rw (none, h.0, h.1) (stop_gives n until j r lines s' m' (rw (← h.0) e) stop)
steps_give (suc k) zero until j r lines s m s' m' e h stop = absurd (omega (arith, h.2))
steps_give (suc k) (suc n) until j r lines s m s' m' e (q, m₁, l, g, made, h) stop =
    let one_on : j + suc k ≡ j + 1 + k = omega arith in
    rw one_on
    (spend_more lines s m q m₁ g n until j l made
    ∙ steps_give k n until (j + 1) r lines q.machine m₁ s' m' (omega (arith, (step_takes lines s m g made).0)) h stop)

spends_give : (n until : ℕ) (lines : Lines) (s : Machine) (m : List ℕ) {q : Ended} {m' : List ℕ} → until ≤ s.cycles + n → Spends until lines s m q m'
    → Gives (spend_full n until 0 lines s) m q m'
spends_give n until lines s m e (ends {k} {s'} {m'} {r} led b stop) =
    let all : 0 + k ≡ k = omega arith in
    subst (λ (c : ℕ). Gives (spend_full n until 0 lines s) m (ended r c s') m') all
    (steps_give k n until 0 r lines s m s' m' e (under k until lines s m s' m' led b) stop)

-- the steps and the stop of every run
record Ending (until : ℕ) (lines : Lines) (s : Machine) (m : List ℕ) : Type 0 where
  steps : ℕ
  machine : Machine
  memory : List ℕ
  reason : Reason
  led : LeadsUnder steps until lines s m machine memory
  stop : Stops until lines machine memory reason

module _ (until : ℕ) (lines : Lines) (s : Machine) (m : List ℕ) where
  stops : {r : Reason} → Stops until lines s m r → Ending until lines s m
  stops {r} stop = record { steps = 0; machine = s; memory = m; reason = r; led = (refl, refl); stop = stop }

  abbrev next : Stepped × List ℕ
  next = exec (step_full lines s) m

  abbrev Later : Type 0
  Later = next.0.reason ≡ Made → Ending until lines next.0.machine next.1

  one_more : s.cycles < until → next.0.reason ≡ Made → Ending until lines next.0.machine next.1 → Ending until lines s m
  one_more l made rest = record {
    steps = suc rest.steps;
    machine = rest.machine;
    memory = rest.memory;
    reason = rest.reason;
    led = (next.0, next.1, l, refl, made, rest.led);
    stop = rest.stop;
  }

  by_way : s.cycles < until → Later → Way lines s m → Ending until lines s m
  by_way l later (late h) = stops (no_cycle_room_lem l h)
  by_way l later (undefined h) = stops (not_an_opcode_lem l h)
  by_way l later (serves h) = let made = ap (λ (w : Stepped × List ℕ). w.0.reason) (step_serves lines s m h.1.0 h.0 h.1.1 refl) in one_more l made (later made)
  by_way l later (ready h) = let made = ap (λ (w : Stepped × List ℕ). w.0.reason) (step_defined lines s m h.2.0 h.0 h.1 h.2.1 refl) in one_more l made (later made)

  by_count : (s.cycles < until → Later) → Dec (s.cycles < until) → Ending until lines s m
  by_count later (no h) = stops (spent (omega arith))
  by_count later (yes l) = by_way l (later l) (way lines s m)

ending : (n until : ℕ) (lines : Lines) (s : Machine) (m : List ℕ) → until ≤ s.cycles + n → Ending until lines s m
ending zero until lines s m e = stops until lines s m (spent (omega arith))
ending (suc n) until lines s m e =
    by_count until lines s m
    (λ l made. ending n until lines (exec (step_full lines s) m).0.machine (exec (step_full lines s) m).1 (omega (arith, (step_takes lines s m refl made).0)))
    (dec_lt s.cycles until)

-- A run by cycles on a full memory gives what ends so, and nothing else.
spend_ends : (n until : ℕ) (lines : Lines) (s : Machine) (m : List ℕ) {q : Ended} {m' : List ℕ} → until ≤ s.cycles + n
    → Gives (spend_full n until 0 lines s) m q m' → Spends until lines s m q m'
spend_ends n until lines s m e g =
    let w = ending n until lines s m e in
    let h = ends (leads w.steps until lines s m w.machine w.memory w.led) (before w.steps until lines s m w.machine w.memory w.led) w.stop in
    same (Spends until lines s m) (spends_give n until lines s m e h) h g

module _ (size limit : ℕ) (lines : Lines) (s : Machine) (m : List ℕ) where
  pub cycles_short : (size ≡ full_memory → ⊥) → Gives (run_cycles size limit lines s) m (ended MemoryNotFull 0 s) m
  unfolding run_cycles
  cycles_short f = simp (ne_eqb _ _ f)

  pub cycles_long : size ≡ full_memory → highest_bound < limit → Gives (run_cycles size limit lines s) m (ended BoundTooHigh 0 s) m
  unfolding run_cycles
  cycles_long e h = simp (eq-eqb _ _ e, lt-leb _ _ h)

  pub cycles_whole : size ≡ full_memory → limit ≤ highest_bound → run_cycles size limit lines s ≡ spend_full limit (s.cycles + limit) 0 lines s
  unfolding run_cycles
  cycles_whole e h = simp (eq-eqb _ _ e, le-leb _ _ h)

  gives : {q : Ended} {m' : List ℕ} → CycleTable size limit lines s m q m' → Gives (run_cycles size limit lines s) m q m'
  gives (ran a h) = rw (cycles_whole a.0 a.1) (spends_give limit (s.cycles + limit) lines s m (omega arith) h)
  gives (memory_not_full_lem f) = cycles_short f
  gives (limit_too_high e l) = cycles_long e l

  allowed : {q : Ended} {m' : List ℕ} → size ≡ full_memory → Dec (highest_bound < limit) → Gives (run_cycles size limit lines s) m q m'
      → CycleTable size limit lines s m q m'
  allowed e (yes l) g = same (CycleTable size limit lines s m) (cycles_long e l) (limit_too_high e l) g
  allowed e (no n) g = ran (e, omega arith) (spend_ends limit (s.cycles + limit) lines s m (omega arith) (rw (cycles_whole e (omega arith)) at g))

  given : {q : Ended} {m' : List ℕ} → Dec (size ≡ full_memory) → Gives (run_cycles size limit lines s) m q m' → CycleTable size limit lines s m q m'
  given (yes e) g = allowed e (dec_lt highest_bound limit) g
  given (no f) g = same (CycleTable size limit lines s m) (cycles_short f) (memory_not_full_lem f) g

  -- A run by cycles gives what the table says, and whatever the table says is what it gives.
  pub run_cycles_answers : {q : Ended} {m' : List ℕ} → Gives (run_cycles size limit lines s) m q m' ↔ CycleTable size limit lines s m q m'
  run_cycles_answers = (λ g. given (ℕ_discrete size full_memory) g, gives)

-- ---- how many cycles and steps

-- what k steps spend, each of them made from a count below `until`
record Spread (k until : ℕ) (s s' : Machine) : Type 0 where
  least : s.cycles + 2 * k ≤ s'.cycles
  none : k ≡ 0 → s'.cycles ≡ s.cycles
  most : 0 < k → s'.cycles ≤ until + 6
  steps : 0 < k → s.cycles + 2 * k ≤ until + 1

spread : (k until : ℕ) (lines : Lines) (s : Machine) (m : List ℕ) (s' : Machine) (m' : List ℕ) → LeadsUnder k until lines s m s' m' → Spread k until s s'
spread zero until lines s m s' m' h =
    let e : s.cycles ≡ s'.cycles = ap (λ (x : Machine). x.cycles) h.0 in
    record { least = omega arith; none = λ z. sym e; most = λ z. absurd (omega arith); steps = λ z. absurd (omega arith) }
spread (suc k) until lines s m s' m' (q, m₁, l, g, made, h) =
    let rest = spread k until lines q.machine m₁ s' m' h in
    let takes = step_takes lines s m g made in
    record {
      least = omega (arith, rest.least, takes);
      none = λ z. absurd (omega arith);
      most = λ z. go_most (ℕ_discrete k 0) rest takes;
      steps = λ z. go_steps (ℕ_discrete k 0) rest takes;
    }
  where
    go_most : Dec (k ≡ 0) → Spread k until q.machine s' → StepCycles s.cycles q → s'.cycles ≤ until + 6
    go_most (yes e) rest takes = omega (arith, rest.none e, takes)
    go_most (no f) rest takes = rest.most (omega arith)

    go_steps : Dec (k ≡ 0) → Spread k until q.machine s' → StepCycles s.cycles q → s.cycles + 2 * suc k ≤ until + 1
    go_steps (yes e) rest takes = omega arith
    go_steps (no f) rest takes = let most = rest.steps (omega arith) in omega (arith, takes)

-- At most limit + 6 cycles are spent, none if the limit is 0, and at most half of limit + 1 steps made, rounded down; 2 cycles or more for
-- each step.
pub record Counts (limit : ℕ) (s : Machine) (q : Ended) : Type 0 where
  pub cycles_least : s.cycles + 2 * q.steps ≤ q.machine.cycles
  pub cycles_most : q.machine.cycles ≤ s.cycles + limit + 6
  pub cycles_none : limit ≡ 0 → q.machine.cycles ≡ s.cycles
  pub steps_most : q.steps ≤ (limit + 1) / 2

module _ (size limit : ℕ) (lines : Lines) (s : Machine) (m : List ℕ) where
  by_spread : (k : ℕ) (s' : Machine) (r : Reason) → Spread k (s.cycles + limit) s s' → Dec (k ≡ 0) → Counts limit s (ended r k s')
  by_spread k s' r h (yes e) = record { cycles_least = h.least; cycles_most = omega (arith, h.none e); cycles_none = λ z. h.none e; steps_most = omega arith }
  by_spread k s' r h (no f) =
      let some : 0 < k = omega arith in
      record { cycles_least = h.least; cycles_most = h.most some; cycles_none = λ z. absurd (omega (arith, h.steps some)); steps_most = omega (arith, h.steps some) }

  by_table : {q : Ended} {m' : List ℕ} → CycleTable size limit lines s m q m' → Counts limit s q
  by_table (ran a (ends {k} {s'} {m'} {r} led b stop)) =
      by_spread k s' r (spread k (s.cycles + limit) lines s m s' m' (under k (s.cycles + limit) lines s m s' m' led b)) (ℕ_discrete k 0)
  by_table (memory_not_full_lem f) = record { cycles_least = omega arith; cycles_most = omega arith; cycles_none = λ z. refl; steps_most = omega arith }
  by_table (limit_too_high e l) = record { cycles_least = omega arith; cycles_most = omega arith; cycles_none = λ z. refl; steps_most = omega arith }

  pub run_cycles_counts : {q : Ended} {m' : List ℕ} → Gives (run_cycles size limit lines s) m q m' → Counts limit s q
  run_cycles_counts g = by_table ((run_cycles_answers size limit lines s m).0 g)

  zero_by_table : {q : Ended} {m' : List ℕ} → CycleTable size limit lines s m q m'
      → (q.reason ≡ Made) ↔ (Allowed size limit × (s.cycles + limit ≤ q.machine.cycles))
  zero_by_table (ran a (ends led b (spent h))) = (λ e. (a, h), λ e. refl)
  zero_by_table (ran a (ends led b (no_cycle_room_lem l h))) = (λ e. let z : ◌≡◌ {A = ℕ} 0 1 = cc in absurd (omega arith), λ e. absurd (omega (arith, e.1)))
  zero_by_table (ran a (ends led b (not_an_opcode_lem l h))) = (λ e. let z : ◌≡◌ {A = ℕ} 0 1 = cc in absurd (omega arith), λ e. absurd (omega (arith, e.1)))
  zero_by_table (memory_not_full_lem f) = (λ e. let z : ◌≡◌ {A = ℕ} 0 1 = cc in absurd (omega arith), λ e. absurd (f e.0.0))
  zero_by_table (limit_too_high f l) = (λ e. let z : ◌≡◌ {A = ℕ} 0 1 = cc in absurd (omega arith), λ e. absurd (omega (arith, e.0.1)))

  -- Answer 0 means that the cycles of the limit, or more, are spent.
  pub zero_means : {q : Ended} {m' : List ℕ} → Gives (run_cycles size limit lines s) m q m'
      → (q.reason ≡ Made) ↔ (Allowed size limit × (s.cycles + limit ≤ q.machine.cycles))
  zero_means g = zero_by_table ((run_cycles_answers size limit lines s m).0 g)

  before_by_table : {q : Ended} {m' : List ℕ} → CycleTable size limit lines s m q m' → Before q.steps (s.cycles + limit) lines s m
  before_by_table (ran a (ends led b stop)) = b
  before_by_table (memory_not_full_lem f) = λ j s₁ m₁ l led. absurd (omega arith)
  before_by_table (limit_too_high f h) = λ j s₁ m₁ l led. absurd (omega arith)

  -- Before every step that was made, the last one too, they were not.
  pub fewer_before : {q : Ended} {m' : List ℕ} → Gives (run_cycles size limit lines s) m q m' → Before q.steps (s.cycles + limit) lines s m
  fewer_before g = before_by_table ((run_cycles_answers size limit lines s m).0 g)

-- ---- a run of so many steps

-- the steps that are tried: those that are made, and a refused one
abbrev pub tried : Ended → ℕ
tried q = cond (is_made q.reason) q.steps (q.steps + 1)

module _ (size limit : ℕ) (lines : Lines) (s : Machine) (m : List ℕ) where
  so_many : {q : Ended} {m' : List ℕ} → Spends (s.cycles + limit) lines s m q m' → Ends (tried q) lines s m q m'
  so_many (ends led b (spent h)) = all_made_lem led
  so_many (ends {k} led b (no_cycle_room_lem l h)) = stopped-late {k = k} (omega arith) led h
  so_many (ends {k} led b (not_an_opcode_lem l h)) = stopped-undefined {k = k} (omega arith) led h

  few_tried : (q : Ended) → q.steps ≤ (limit + 1) / 2 → limit ≤ highest_bound → tried q ≤ highest_bound
  few_tried q h l = either (λ n. n ≤ highest_bound) (is_made q.reason) q.steps (q.steps + 1) (omega arith) (omega arith)

  by_answer : {q : Ended} {m' : List ℕ} → limit ≤ highest_bound → CycleTable size limit lines s m q m' → Gives (run size (tried q) lines s) m q m'
  by_answer {q} l (ran a h) =
      let counts = by_table size limit lines s m (ran a h) in
      (run_answers size (tried q) lines s m).1 (run_Ran (a.0, few_tried q counts.steps_most l) (so_many h))
  by_answer l (memory_not_full_lem f) = run_short size 1 lines s m f
  by_answer l (limit_too_high e h) = absurd (omega arith)

  -- A run by cycles gives what the run of the steps that it tried gives.
  pub as_run : {q : Ended} {m' : List ℕ} → limit ≤ highest_bound → Gives (run_cycles size limit lines s) m q m'
      → Gives (run size (tried q) lines s) m q m'
  as_run l g = by_answer l ((run_cycles_answers size limit lines s m).0 g)

-- ---- demand 3

-- demand 3 of a run by cycles
pub run_cycles_sealed : (Sealed : ℕ → Type 0) (limit : ℕ) (lines : Lines) (s : Machine) (m₁ m₂ : List ℕ) {q₁ q₂ : Ended} {e₁ e₂ : List ℕ}
    → Differ Sealed m₁ m₂
    → Unsealed Sealed (listed_run_cycles (length m₁) limit lines s m₁)
    → Gives (run_cycles (length m₁) limit lines s) m₁ q₁ e₁
    → Gives (run_cycles (length m₂) limit lines s) m₂ q₂ e₂
    → (q₁ ≡ q₂) × Kept Sealed (stores (run_cycles (length m₁) limit lines s) m₁) m₁ m₂ e₁ e₂
run_cycles_sealed Sealed limit lines s m₁ m₂ {q₂ = q₂} {e₂ = e₂} d u g₁ g₂ =
    sealed Sealed (run_cycles (length m₁) limit lines s) m₁ m₂ d (subst (Unsealed Sealed) (sym (run_cycles_reads (length m₁) limit lines s m₁)) u) g₁
    (subst (λ (n : ℕ). Gives (run_cycles n limit lines s) m₂ q₂ e₂) (d.full₂ ∙ sym d.full₁) g₂)

-- ---- the edges

module _ (lines : Lines) (s : Machine) (m : List ℕ) where
  -- A limit of 1,000,000 is run, one of 1,000,001 gives 4.
  pub limit_1000000 : run_cycles 65536 1000000 lines s ≡ spend_full 1000000 (s.cycles + 1000000) 0 lines s
  unfolding run_cycles
  limit_1000000 = refl

  pub limit_1000001 : Gives (run_cycles 65536 1000001 lines s) m (ended BoundTooHigh 0 s) m
  unfolding run_cycles
  limit_1000001 = refl

  -- A limit of 0 on a full memory answers 0 with 0 steps, whatever the count, and reads nothing.
  pub limit_0 : Gives (run_cycles 65536 0 lines s) m (ended Made 0 s) m
  unfolding run_cycles spend_full run_while
  limit_0 = refl

  pub limit_0_reads : reads (run_cycles 65536 0 lines s) m ≡ []
  unfolding run_cycles spend_full run_while accesses
  limit_0_reads = refl
