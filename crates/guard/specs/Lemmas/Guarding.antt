-- Laws that the code's proofs cite.
use Rattle.std.specs.Prelude.{◌≡◌, ℕ, zero, suc, ◌+◌, ◌-◌, ◌<◌, ◌≤◌, Bool, true, false, cond, not, ◌&&◌, List, ◌≢◌, Some, None, Option, Ok, Err}
use Rattle.std.proofs.Math.Path.{refl}
use Rattle.std.proofs.Common.{ap, ap₂, sym, ◌∙◌, subst, true≢false, inl, inr, eq-eqb, ne_eqb}
use native.Mathlib.Omega.{arith}
use Rattle.manual.specs.declared.Lines.{Lines}
use Rattle.manual.specs.declared.Machine.{Machine}
use Rattle.manual.specs.declared.Stepped.{Stepped}
use Rattle.manual.specs.declared.Ended.{Ended}
use Rattle.manual.specs.declared.Reason.TheVariants.{Made, MemoryNotFull, NoCycleRoom}
use Rattle.manual.specs.Micro.{exec, Gives}
use Rattle.manual.specs.Outcomes.{is_made}
use Rattle.manual.specs.Interrupts.{nmi_vector, irq_vector, falls, calls, due}
use Rattle.manual.specs.Stepping.{full_memory, highest_count, step_full}
use Rattle.manual.proofs.Theorems.Answers.{Way, late, serves, undefined, ready, way, not_quiet}
use Rattle.manual.proofs.Lemmas.StepLaws.{due_none, step_late, step_undefined, step_defined}
use Rattle.footprint.specs.Lemmas.Footprints.{late_list, due_list, due_stores}
use Rattle.cpu.specs.Inner.Turning.{raised, stretch, Calm, reach, fitting, going}
use Rattle.cpu.specs.Lemmas.Turning.{going_fits, going_most, some}
use Rattle.guard_maps.specs.declared.Touch.{Touch}
use Rattle.guard_maps.specs.Maps.{first_in, touching, ahead_of}
use Rattle.guard.specs.declared.Halt.{Halt}
use Rattle.guard.specs.Guarded.{Guarded, ran, halted, unless, guarded_full, guarded}
use Rattle.guard_near.specs.Inner.Near.{Untouched}

-- ---- what is ahead

-- nothing, if the byte at the counter touches nothing and no line is due
pub none_ahead : (reads stores : ℕ → Bool) (lines : Lines) (s : Machine) (m : List ℕ) → s.cycles ≤ highest_count → due lines s ≡ None
    → Untouched reads stores s.registers m
    → ahead_of reads stores lines s m ≡ None
none_ahead reads stores lines s m room is (r, w) =
    ap₂ touching (ap (first_in reads) (due_list lines s m None room is) ∙ r) (ap (first_in stores) (due_stores lines s m None room is) ∙ w)

-- ---- the next step

module _ (reads stores : ℕ → Bool) (n k : ℕ) (lines : Lines) (s : Machine) (m : List ℕ) where
  pub guarded_halts : (t : Touch) → ahead_of reads stores lines s m ≡ Some t → guarded_full reads stores (suc n) k lines s m ≡ (halted t k s, m)
  unfolding guarded_full
  guarded_halts t e = rw e

  -- what a step gives, by its answer
  abbrev goes : Stepped × List ℕ → Guarded × List ℕ
  goes w = cond (is_made w.0.reason) (guarded_full reads stores n (k + 1) lines w.0.machine w.1) (ran w.0.reason k w.0.machine, w.1)

  module _ (q : Stepped) (m' : List ℕ) (e : ahead_of reads stores lines s m ≡ None) (g : Gives (step_full lines s) m q m') where
    steps_on : guarded_full reads stores (suc n) k lines s m ≡ goes (q, m')
    unfolding guarded_full
    steps_on = rw e (ap goes g)

    pub guarded_goes_on : is_made q.reason ≡ true → guarded_full reads stores (suc n) k lines s m ≡ guarded_full reads stores n (k + 1) lines q.machine m'
    guarded_goes_on h = steps_on ∙ rw h

    pub guarded_stops : is_made q.reason ≡ false → guarded_full reads stores (suc n) k lines s m ≡ (ran q.reason k q.machine, m')
    guarded_stops h = steps_on ∙ rw h

  -- a step for which there is no room touches nothing
  pub guarded_late : highest_count < s.cycles → guarded_full reads stores (suc n) k lines s m ≡ (ran NoCycleRoom k s, m)
  unfolding first_in
  guarded_late h =
      guarded_stops _ _ (ap₂ touching (ap (first_in reads) (late_list s _ h)) (ap (first_in stores) (late_list s _ h))) (step_late lines s m h) refl

pub guarded_end : (reads stores : ℕ → Bool) (k : ℕ) (lines : Lines) (s : Machine) (m : List ℕ) → guarded_full reads stores 0 k lines s m ≡ (ran Made k s, m)
unfolding guarded_full
guarded_end reads stores k lines s m = refl

-- ---- with IRQ high

-- if nothing is due, NMI does not fall
pub quiet_held : (lines : Lines) (s : Machine) → due lines s ≡ None → falls lines s ≡ false
quiet_held lines s e = go (falls lines s) (calls lines s) e
  where
    go : (t u : Bool) → cond t (Some nmi_vector) (cond u (Some irq_vector) None) ≡ None → t ≡ false
    go true u h = absurd (not_quiet _ nmi_vector h refl)
    go false u h = refl

pub held_quiet : (nmi : Bool) (s : Machine) → (s.nmi && not nmi) ≡ false → due (raised nmi) s ≡ None
held_quiet nmi s e = due_none (raised nmi) s e refl

-- nor does it after a step, when the last level is the present one
pub level_held : (begun was nmi : Bool) → (was && not nmi) ≡ false → (cond begun nmi was && not nmi) ≡ false
level_held true was true e = refl
level_held true was false e = refl
level_held false was nmi e = e

module _ (lines : Lines) (s : Machine) (m : List ℕ) (none : due lines s ≡ None) where
  abbrev high : Lines
  high = raised lines.nmi

  also : due high s ≡ None
  also = held_quiet lines.nmi s (quiet_held lines s none)

  same_ahead : (reads stores : ℕ → Bool) → ahead_of reads stores lines s m ≡ ahead_of reads stores high s m
  same_ahead reads stores = rw (none, also)

  same_step : exec (step_full lines s) m ≡ exec (step_full high s) m
  same_step = by_way (way lines s m)
    where
      by_way : Way lines s m → exec (step_full lines s) m ≡ exec (step_full high s) m
      by_way (late h) = step_late lines s m h ∙ sym (step_late high s m h)
      by_way (serves h) = absurd (not_quiet (due lines s) h.1.0 none h.1.1)
      by_way (undefined h) = step_undefined lines s m h.0 none h.2 ∙ sym (step_undefined high s m h.0 also h.2)
      by_way (ready h) =
          step_defined lines s m h.2.0 h.0 none h.2.1 refl ∙ sym (step_defined high s m h.2.0 h.0 also h.2.1 refl)

  one_step_lem : (reads stores : ℕ → Bool) (k : ℕ) → guarded_full reads stores 1 k lines s m ≡ guarded_full reads stores 1 k high s m
  unfolding guarded_full
  one_step_lem reads stores k = rw (same_ahead reads stores, same_step)

  -- the steps between which no line can become due are those with IRQ high
  pub calm_steps : (reads stores : ℕ → Bool) (n k : ℕ) → Calm lines n → guarded_full reads stores n k lines s m ≡ guarded_full reads stores n k high s m
  calm_steps reads stores n k (inl e) = ap (λ (irq : Bool). guarded_full reads stores n k (record { irq = irq; nmi = lines.nmi }) s m) e
  calm_steps reads stores n k (inr e) = rw e (one_step_lem reads stores k)

-- ---- some steps, and then more

module _ (reads stores : ℕ → Bool) (lines : Lines) where
  -- what n more steps give after a result
  abbrev pub onward : ℕ → Guarded × List ℕ → Guarded × List ℕ
  onward n (Ok q, m) = cond (is_made q.reason) (guarded_full reads stores n q.steps lines q.machine m) (Ok q, m)
  onward n (Err h, m) = (Err h, m)

  -- what a step gives and k steps after it, by what is ahead and its answer
  abbrev then : ℕ → ℕ → Machine → List ℕ → Stepped → List ℕ → Option Touch → Bool → Guarded × List ℕ
  then j k s m q e x t = unless x (λ z. (halted z k s, m)) (cond t (guarded_full reads stores j (k + 1) lines q.machine e) (ran q.reason k q.machine, e))

  then_onward : (j n k : ℕ) (s : Machine) (m : List ℕ) (q : Stepped) (e : List ℕ) (x : Option Touch) (t : Bool) → is_made q.reason ≡ t
      → guarded_full reads stores (j + n) (k + 1) lines q.machine e ≡ onward n (guarded_full reads stores j (k + 1) lines q.machine e)
      → then (j + n) k s m q e x t ≡ onward n (then j k s m q e x t)
  then_onward j n k s m q e (Some t') t is h = refl
  then_onward j n k s m q e None true is h = h
  then_onward j n k s m q e None false is h = rw is

  pub guarded_onward : (j n k : ℕ) (s : Machine) (m : List ℕ) → guarded_full reads stores (j + n) k lines s m ≡ onward n (guarded_full reads stores j k lines s m)
  unfolding guarded_full
  guarded_onward zero n k s m = let e : 0 + n ≡ n = omega arith in rw e (sym (ap (onward n) (guarded_end reads stores k lines s m)))
  guarded_onward (suc j) n k s m =
      let w = exec (step_full lines s) m in
      let e : suc j + n ≡ suc (j + n) = omega arith in
      rw e (then_onward j n k s m w.0 w.1 (ahead_of reads stores lines s m) (is_made w.0.reason) refl (guarded_onward j n (k + 1) w.0.machine w.1))

  -- if all of some steps were made, they were so many
  abbrev pub Counted : ℕ → Guarded × List ℕ → Type 0
  Counted k (Ok q, m) = is_made q.reason ≡ true → q.steps ≡ k
  Counted k (Err h, m) = Unit {0}

  then_counted : (j k i : ℕ) (s : Machine) (m : List ℕ) (q : Stepped) (e : List ℕ) (x : Option Touch) (t : Bool) → is_made q.reason ≡ t
      → Counted i (guarded_full reads stores j (k + 1) lines q.machine e)
      → Counted i (then j k s m q e x t)
  then_counted j k i s m q e (Some t') t is h = tt
  then_counted j k i s m q e None true is h = h
  then_counted j k i s m q e None false is h = λ f. absurd (true≢false (sym f ∙ is))

  pub guarded_counted : (j k : ℕ) (s : Machine) (m : List ℕ) → Counted (k + j) (guarded_full reads stores j k lines s m)
  unfolding guarded_full
  guarded_counted zero k s m = λ e. omega arith
  guarded_counted (suc j) k s m =
      let w = exec (step_full lines s) m in
      let one : k + 1 + j ≡ k + suc j = omega arith in
      then_counted j k (k + suc j) s m w.0 w.1 (ahead_of reads stores lines s m) (is_made w.0.reason) refl
      (subst (λ (i : ℕ). Counted i (guarded_full reads stores j (k + 1) lines w.0.machine w.1)) one (guarded_counted j (k + 1) w.0.machine w.1))

-- ---- a run in parts

-- j steps of those that are left
module _ (reads stores : ℕ → Bool) (bound k j : ℕ) (lines : Lines) (s : Machine) (m : List ℕ) (few : (0 < j) × (j ≤ bound - k)) where
  module _ (w : Guarded × List ℕ) (g : w ≡ guarded_full reads stores j k lines s m) where
    part_onward : guarded_full reads stores (bound - k) k lines s m ≡ onward reads stores lines (bound - k - j) w
    part_onward =
        let e : bound - k ≡ j + (bound - k - j) = omega (arith, few.1) in
        ap (λ (i : ℕ). guarded_full reads stores i k lines s m) e ∙ guarded_onward reads stores lines j (bound - k - j) k s m ∙ ap (onward reads stores lines (bound - k - j)) (sym g)

  -- if they were halted or stopped, so is the run
  pub part_halts : (h : Halt) (e : List ℕ) → (Err h, e) ≡ guarded_full reads stores j k lines s m
      → guarded_full reads stores (bound - k) k lines s m ≡ (Err h, e)
  part_halts h e g = part_onward (Err h, e) g

  module _ (q : Ended) (e : List ℕ) (g : (Ok q, e) ≡ guarded_full reads stores j k lines s m) where
    pub part_stops : is_made q.reason ≡ false → guarded_full reads stores (bound - k) k lines s m ≡ (Ok q, e)
    part_stops f = part_onward (Ok q, e) g ∙ rw f

    -- if they were not, all are made, and the run goes on from the machine that they left
    pub part_made : is_made q.reason ≡ true → q.steps ≡ k + j
    part_made = subst (Counted reads stores lines (k + j)) (sym g) (guarded_counted reads stores lines j k s m)

    pub part_goes : is_made q.reason ≡ true
        → (k < q.steps) × (q.steps ≤ bound)
        × (guarded_full reads stores (bound - k) k lines s m ≡ guarded_full reads stores (bound - q.steps) q.steps lines q.machine e)
    part_goes f =
        let made = part_made f in
        let rest : bound - k - j ≡ bound - q.steps = omega (arith, made, few.1) in (
          omega (arith, made, few.0),
          omega (arith, made, few.1),
          part_onward (Ok q, e) g ∙ rw f (ap (λ (i : ℕ). guarded_full reads stores i q.steps lines q.machine e) rest),
        )

-- A turn makes some of the steps that are left.
pub turn_some : (bound k : ℕ) (lines : Lines) (s : Machine) → k < bound
    → let j = stretch (due lines s) (going lines s.cycles (bound - k)) in
    (0 < j) × (j ≤ bound - k)
turn_some bound k lines s l =
    let one : 0 < bound - k = omega arith in
    some lines s (bound - k) (going lines s.cycles (bound - k)) (going_fits lines s.cycles (bound - k) one).0 (going_most lines s.cycles (bound - k) one) (due lines s)

-- So the run goes on from what a turn leaves, or that is its end. `far` is how far the turn goes.
module _ (reads stores : ℕ → Bool) (bound k : ℕ) (lines : Lines) (s : Machine) (m : List ℕ) (before : k < bound) {room far : ℕ} {w : Guarded} {e : List ℕ}
    (fits : room ≡ fitting (bound - k) s.cycles) (reaches : far ≡ reach lines.irq room)
    (gives : (w, e) ≡ guarded_full reads stores (stretch (due lines s) (k + far - k)) k lines s m) where
  span : k + far - k ≡ going lines s.cycles (bound - k)
  span = let back : k + far - k ≡ far = omega arith in back ∙ reaches ∙ ap (reach lines.irq) fits

  turned : {v : Guarded} → w ≡ v → (v, e) ≡ guarded_full reads stores (stretch (due lines s) (going lines s.cycles (bound - k))) k lines s m
  turned is = ap (λ (v : Guarded). (v, e)) (sym is) ∙ gives ∙ ap (λ (i : ℕ). guarded_full reads stores (stretch (due lines s) i) k lines s m) span

  pub turn_halts : (h : Halt) → w ≡ Err h → guarded_full reads stores (bound - k) k lines s m ≡ (Err h, e)
  turn_halts h is = part_halts reads stores bound k _ lines s m (turn_some bound k lines s before) h e (turned is)

  module _ (q : Ended) (is : w ≡ Ok q) where
    pub turn_stops : is_made q.reason ≡ false → guarded_full reads stores (bound - k) k lines s m ≡ (Ok q, e)
    turn_stops f = part_stops reads stores bound k _ lines s m (turn_some bound k lines s before) q e (turned is) f

    pub turn_goes : is_made q.reason ≡ true
        → (k < q.steps) × (q.steps ≤ bound)
        × (guarded_full reads stores (bound - k) k lines s m ≡ guarded_full reads stores (bound - q.steps) q.steps lines q.machine e)
    turn_goes f = part_goes reads stores bound k _ lines s m (turn_some bound k lines s before) q e (turned is) f

-- ---- the test before the first step

module _ (reads stores : ℕ → Bool) (size bound : ℕ) (lines : Lines) (s : Machine) (m : List ℕ) where
  pub guarded_short : (size ≢ full_memory) → guarded reads stores size bound lines s m ≡ (ran MemoryNotFull 0 s, m)
  unfolding guarded
  guarded_short f = simp (ne_eqb _ _ f)

  pub guarded_whole : size ≡ full_memory → guarded reads stores size bound lines s m ≡ guarded_full reads stores bound 0 lines s m
  unfolding guarded
  guarded_whole e = simp (eq-eqb _ _ e)
