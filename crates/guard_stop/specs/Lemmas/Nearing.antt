-- A run to an address, by a run with that address guarded against reads.
use Prim.Native.Nat.{ℕ, zero, suc, ◌+◌, ◌-◌, ◌≤◌, ◌<◌}
use Rattle.std.proofs.Math.Path.{◌≡◌, refl, ap}
use Rattle.std.proofs.Common.{ap₂, sym, ◌∙◌, subst, true≢false, inl, ⊎_elim, eq-eqb, ne_eqb}
use Rattle.std.specs.Prelude.{Bool, true, false, not, cond, List, [], ◌∷◌, ◌⊎◌, eqb, None, Option, Some, Ok, Err}
use Rattle.std.proofs.Math.Logic.{inr}
use Rattle.std.proofs.Math.Decide.{dec_lt}
use native.Mathlib.Omega.{arith}
use Rattle.std.proofs.lemmas.Bool.{eqb-false}
use Rattle.manual.specs.declared.Lines.{Lines}
use Rattle.manual.specs.declared.Machine.{Machine}
use Rattle.manual.specs.declared.Stepped.{Stepped}
use Rattle.manual.specs.declared.Ended.{Ended}
use Rattle.manual.specs.declared.Reason.{Reason}
use Rattle.manual.specs.declared.Reason.TheVariants.{Made, MemoryNotFull, NoCycleRoom}
use Rattle.manual.specs.Micro.{exec, Gives}
use Rattle.manual.specs.Outcomes.{is_made, refused, ended}
use Rattle.manual.specs.Interrupts.{falls}
use Rattle.manual.specs.Stepping.{full_memory, highest_count, step_full, run_while, run_full}
use Rattle.manual.specs.ReadList.{listed_step_full}
use Rattle.manual.specs.StoreList.{stored_by_step_full}
use Rattle.manual.proofs.Lemmas.StepLaws.{due_none, step_late, step_serves, step_undefined, step_defined, was_made, was_refused, while_over, while_more, while_stop, run_more, run_stop, run_end}
use Rattle.manual.proofs.Theorems.Answers.{Way, late, serves, undefined, ready, way}
use Rattle.manual.proofs.Theorems.RunAnswers.{same}
use Rattle.manual.proofs.Theorems.Serving.{recorded, high_and_low}
use Rattle.footprint.specs.Lemmas.Footprints.{due_list}
use Rattle.guard_maps.specs.declared.Touch.{Touch}
use Rattle.guard_maps.specs.Maps.{first_in, touching, ahead_of, nowhere}
use Rattle.guard.specs.declared.Halt.{Halt}
use Rattle.guard.specs.Guarded.{Guarded, ran, halted, unless, guarded_full}
use Rattle.guard.specs.Lemmas.AnyGuard.{Right, right, nothing_ahead}
use Rattle.guard.specs.Lemmas.Guarding.{guarded_halts, guarded_goes_on, guarded_stops, guarded_late, guarded_end, Counted, guarded_counted}
use Rattle.guard_stop.specs.Stop.{elsewhere, run_to}
use Rattle.guard_stop.specs.Inner.Nearing.{toward, Nears}

-- a refused step leaves the machine and the memory
module _ (lines : Lines) (s : Machine) (m : List ℕ) where
  abbrev Left : Stepped × List ℕ → Type 0
  Left w = is_made w.0.reason ≡ false → (w.0.machine ≡ s) × (w.1 ≡ m)

  by_way : Way lines s m → Left (exec (step_full lines s) m)
  by_way (late h) = subst Left (sym (step_late lines s m h)) (λ z. (refl, refl))
  by_way (undefined h) = subst Left (sym (step_undefined lines s m h.0 h.1 h.2)) (λ z. (refl, refl))
  by_way (serves h) = subst Left (sym (step_serves lines s m h.1.0 h.0 h.1.1 refl)) (λ z. absurd (true≢false z))
  by_way (ready h) = subst Left (sym (step_defined lines s m h.2.0 h.0 h.1 h.2.1 refl)) (λ z. absurd (true≢false z))

  refusal_leaves : Left (exec (step_full lines s) m)
  refusal_leaves = by_way (way lines s m)

-- ---- how far a guarded run comes

module _ (reads stores : ℕ → Bool) (lines : Lines) where
  -- not past its bound; and if it makes no step, all is as it was
  abbrev Comes : ℕ → ℕ → Machine → List ℕ → ℕ → Machine → List ℕ → Type 0
  Comes j k s m i t e = (k ≤ i) × (i ≤ k + j) × ((k < i) ⊎ ((t ≡ s) × (e ≡ m)))

  abbrev pub Where : ℕ → ℕ → Machine → List ℕ → Guarded × List ℕ → Type 0
  Where j k s m (Ok q, e) = Comes j k s m q.steps q.machine e
  Where j k s m (Err h, e) = Comes j k s m h.steps h.machine e

  later : (j k : ℕ) (s s' : Machine) (m m' : List ℕ) (w : Guarded × List ℕ) → Where j (k + 1) s' m' w → Where (suc j) k s m w
  later j k s s' m m' (Ok q, e) h = (omega (arith, h.0), omega (arith, h.1), inl (omega (arith, h.0)))
  later j k s s' m m' (Err x, e) h = (omega (arith, h.0), omega (arith, h.1), inl (omega (arith, h.0)))

  by_step : (j k : ℕ) (s : Machine) (m : List ℕ) (x : Option Touch) (t : Bool) → is_made (exec (step_full lines s) m).0.reason ≡ t
      → let w = exec (step_full lines s) m in
      Where j (k + 1) w.0.machine w.1 (guarded_full reads stores j (k + 1) lines w.0.machine w.1)
      → Where (suc j) k s m
      (unless x (λ z. (halted z k s, m))
      (cond t (guarded_full reads stores j (k + 1) lines w.0.machine w.1) (ran w.0.reason k w.0.machine, w.1)))
  by_step j k s m (Some z) t is h = (omega arith, omega arith, inr (refl, refl))
  by_step j k s m None true is h = later j k s _ m _ (guarded_full reads stores j (k + 1) lines _ _) h
  by_step j k s m None false is h = (omega arith, omega arith, inr (refusal_leaves lines s m is))

  pub comes : (j k : ℕ) (s : Machine) (m : List ℕ) → Where j k s m (guarded_full reads stores j k lines s m)
  unfolding guarded_full
  comes zero k s m = (omega arith, omega arith, inr (refl, refl))
  comes (suc j) k s m = by_step j k s m (ahead_of reads stores lines s m) _ refl (comes j (k + 1) _ _)

-- ---- the answer of a guarded run, by its case

pub told_by : {w v : Guarded} {e : List ℕ} {x : Guarded × List ℕ} → (w, e) ≡ x → w ≡ v → (v, e) ≡ x
told_by g is = rw is at g

-- ---- one step, with nothing guarded

none_first : (l : List ℕ) → first_in nowhere l ≡ None
unfolding first_in
none_first [] = refl
none_first (a ∷ l) = none_first l

never_halts : (lines : Lines) (s : Machine) (m : List ℕ) (t : Touch) → ahead_of nowhere nowhere lines s m ≡ Some t → ⊥
never_halts lines s m t e =
    let f = ap₂ touching (none_first (listed_step_full lines s m)) (none_first (stored_by_step_full lines s m)) in
    let g : None ≡ Some t = sym f ∙ e in
    let z : ◌≡◌ {A = ℕ} 0 1 = cc in omega arith

module _ (k : ℕ) (lines : Lines) (s : Machine) (m : List ℕ) (e : List ℕ) where
  abbrev Once : Guarded × List ℕ → Type 0
  Once w = Right nowhere nowhere lines 1 k s m w

  once : {w : Guarded} → (w, e) ≡ guarded_full nowhere nowhere 1 k lines s m → Once (w, e)
  once g = subst Once (sym g) (right nowhere nowhere lines 1 k s m)

  pub once_ran : (q : Ended) → (Ok q, e) ≡ guarded_full nowhere nowhere 1 k lines s m → Gives (run_full 1 k lines s) m q e
  once_ran q g = (once g).0

  pub once_not_halted : (h : Halt) → (Err h, e) ≡ guarded_full nowhere nowhere 1 k lines s m → ⊥
  once_not_halted h g = never_halts lines h.machine e h.touch (once g).ahead

-- ---- a step of the run to an address

module _ (stop bound : ℕ) (lines : Lines) where
  pub there : (k : ℕ) (s : Machine) (m : List ℕ) → eqb s.registers.counter stop ≡ true → toward stop bound lines k s m ≡ (ended Made k s, m)
  there k s m e = while_over (elsewhere stop) (bound - k) k lines s m (ap not e)

  pub all_made_lem : (k : ℕ) (s : Machine) (m : List ℕ) → bound ≤ k → toward stop bound lines k s m ≡ (ended Made k s, m)
  unfolding run_while
  all_made_lem k s m h = let none : bound - k ≡ 0 = omega (arith, h) in rw none

  module _ (k : ℕ) (s : Machine) (m : List ℕ) (f : eqb s.registers.counter stop ≡ false) (l : k < bound) where
    one : bound - k ≡ suc (bound - (k + 1))
    one = omega (arith, l)

    module _ (q : Stepped) (m' : List ℕ) (g : Gives (step_full lines s) m q m') where
      on : is_made q.reason ≡ true → toward stop bound lines k s m ≡ toward stop bound lines (k + 1) q.machine m'
      on h = rw one (while_more (elsewhere stop) lines s m q m' g (ap not f) (bound - (k + 1)) k (was_made q.reason h))

      off : is_made q.reason ≡ false → toward stop bound lines k s m ≡ (ended q.reason k q.machine, m')
      off h = rw one (while_stop (elsewhere stop) lines s m q m' g (ap not f) (bound - (k + 1)) k (was_refused q.reason h))

    abbrev next : Stepped × List ℕ
    next = exec (step_full lines s) m

    by_reason : (t : Bool) → is_made next.0.reason ≡ t
        → {q : Ended} {e : List ℕ} → Gives (run_full 1 k lines s) m q e → Nears stop bound lines k s m q e
    by_reason true h g =
        same (Nears stop bound lines k s m)
        (run_more lines s m next.0 next.1 refl 0 k (was_made next.0.reason h) ∙ run_end (k + 1) lines next.0.machine next.1)
        (record { same = on next.0 next.1 refl h; some = λ z. (omega arith, omega (arith, l)) })
        g
    by_reason false h g =
        same (Nears stop bound lines k s m)
        (run_stop lines s m next.0 next.1 refl 0 k (was_refused next.0.reason h))
        (record { same = rw h (off next.0 next.1 refl h); some = λ z. absurd (true≢false (sym z ∙ h)) })
        g

    pub once_nears : {q : Ended} {e : List ℕ} → Gives (run_full 1 k lines s) m q e → Nears stop bound lines k s m q e
    once_nears g = by_reason (is_made next.0.reason) refl g

  -- ---- the steps of a guarded run, with IRQ high

  -- what the run to the address gives after what the guarded run gave
  abbrev pub onward : Guarded × List ℕ → Ended × List ℕ
  onward (Ok q, e) =
      cond (is_made q.reason) (toward stop bound lines q.steps q.machine e)
      (cond (eqb q.machine.registers.counter stop) (ended Made q.steps q.machine, e) (q, e))
  onward (Err h, e) = toward stop bound lines h.steps h.machine e

  refused_elsewhere : (r : Reason) (k : ℕ) (s : Machine) (e : List ℕ) → is_made r ≡ false → eqb s.registers.counter stop ≡ false
      → (ended r k s, e) ≡ onward (ran r k s, e)
  refused_elsewhere r k s e h f = rw (h, f)

  module _ (guards : ℕ → Bool) (at : guards stop ≡ true) (irq : lines.irq ≡ true) where
    -- a step from the address reads the byte there, unless NMI falls
    seen : (s : Machine) (m : List ℕ) → s.cycles ≤ highest_count → falls lines s ≡ false → s.registers.counter ≡ stop
        → ahead_of guards nowhere lines s m ≡ None → ⊥
    unfolding first_in
    seen s m room f z e =
        let none = (nothing_ahead (first_in guards (listed_step_full lines s m)) _ e).0 in
        let first = ap (first_in guards) (due_list lines s m None room (due_none lines s f (rw irq))) in
        let found : Some stop ≡ None = rw (z, at) at (sym first ∙ none) in
        let y : ◌≡◌ {A = ℕ} 0 1 = cc in omega arith

    abbrev Heard : Machine → Type 0
    Heard s = s.registers.counter ≡ stop → falls lines s ≡ false

    module _ (j k : ℕ) (s : Machine) (m : List ℕ) (l : k < bound) where
      abbrev after : Stepped × List ℕ
      after = exec (step_full lines s) m

      abbrev guarded : Guarded × List ℕ
      guarded = guarded_full guards nowhere (suc j) k lines s m

      too_late : highest_count < s.cycles → (t : Bool) → eqb s.registers.counter stop ≡ t → toward stop bound lines k s m ≡ onward (ran NoCycleRoom k s, m)
      too_late h true e = rw e (there k s m e)
      too_late h false e = rw e (off k s m e l (refused NoCycleRoom s) m (step_late lines s m h) refl)

      -- what the rest gives, if the step is made
      abbrev Rest : Type 0
      Rest = is_made after.0.reason ≡ true
          → toward stop bound lines (k + 1) after.0.machine after.1 ≡ onward (guarded_full guards nowhere j (k + 1) lines after.0.machine after.1)

      by_made : ahead_of guards nowhere lines s m ≡ None → eqb s.registers.counter stop ≡ false
          → (t : Bool) → is_made after.0.reason ≡ t → Rest
          → toward stop bound lines k s m ≡ onward guarded
      by_made a f true h rest =
          on k s m f l after.0 after.1 refl h
          ∙ rest h
          ∙ ap onward (sym (guarded_goes_on guards nowhere j k lines s m after.0 after.1 a refl h))
      by_made a f false h rest =
          let stays : eqb after.0.machine.registers.counter stop ≡ false = rw (refusal_leaves lines s m h).0 f in
          off k s m f l after.0 after.1 refl h
          ∙ refused_elsewhere after.0.reason k after.0.machine after.1 h stays
          ∙ ap onward (sym (guarded_stops guards nowhere j k lines s m after.0 after.1 a refl h))

      by_ahead : s.cycles ≤ highest_count → Heard s → (x : Option Touch) → ahead_of guards nowhere lines s m ≡ x → Rest → toward stop bound lines k s m ≡ onward guarded
      by_ahead room heard (Some t) a rest = ap onward (sym (guarded_halts guards nowhere j k lines s m t a))
      by_ahead room heard None a rest =
          by_made a (ne_eqb _ _ (λ z. seen s m room (heard z) z a)) (is_made after.0.reason) refl rest

      by_room : Dec (highest_count < s.cycles) → Heard s → Rest → toward stop bound lines k s m ≡ onward guarded
      by_room (yes h) heard rest =
          too_late h (eqb s.registers.counter stop) refl ∙ ap onward (sym (guarded_late guards nowhere j k lines s m h))
      by_room (no n) heard rest = by_ahead (omega arith) heard (ahead_of guards nowhere lines s m) refl rest

    pub leads : (j k : ℕ) (s : Machine) (m : List ℕ) → k + j ≤ bound → Heard s
        → toward stop bound lines k s m ≡ onward (guarded_full guards nowhere j k lines s m)
    leads zero k s m l heard = ap onward (sym (guarded_end guards nowhere k lines s m))
    leads (suc j) k s m l heard =
        by_room j k s m (omega arith) (dec_lt highest_count s.cycles) heard
        (λ h. leads j (k + 1) _ _ (omega arith) (λ z. rw (recorded lines s m refl h) (high_and_low lines.nmi)))

    -- ---- all the steps that are left, under guard

    module _ (k : ℕ) (s : Machine) (m : List ℕ) (f : eqb s.registers.counter stop ≡ false) (l : k < bound) (e : List ℕ) where
      all : k + (bound - k) ≡ bound
      all = omega (arith, l)

      abbrev Given : Guarded → Type 0
      Given x = (x, e) ≡ guarded_full guards nowhere (bound - k) k lines s m

      led : {x : Guarded} → Given x → toward stop bound lines k s m ≡ onward (x, e)
      led g = leads (bound - k) k s m (omega (arith, all)) (λ z. absurd (eqb-false _ _ f z)) ∙ ap onward (sym g)

      far : {x : Guarded} → Given x → Where guards nowhere lines (bound - k) k s m (x, e)
      far g = subst (Where guards nowhere lines (bound - k) k s m) (sym g) (comes guards nowhere lines (bound - k) k s m)

      -- it is over at the address, after some steps
      pub ran_there : (q : Ended) → Given (Ok q) → eqb q.machine.registers.counter stop ≡ true
          → Nears stop bound lines k s m (ended Made q.steps q.machine) e
      ran_there q g t = record {
        same = led g ∙ by_made' (is_made q.reason);
        some = λ z. (⊎_elim (λ x. x) (λ x. absurd (true≢false (sym t ∙ ap (λ (y : Machine). eqb y.registers.counter stop) x.0 ∙ f))) (far g).2, omega (arith, (far g).1, all));
      }
        where
          by_made' : (b : Bool)
              → cond b (toward stop bound lines q.steps q.machine e)
              (cond (eqb q.machine.registers.counter stop) (ended Made q.steps q.machine, e) (q, e))
              ≡ toward stop bound lines q.steps q.machine e
          by_made' true = refl
          by_made' false = rw t (sym (there q.steps q.machine e t))

      pub ran_elsewhere : (q : Ended) → Given (Ok q) → eqb q.machine.registers.counter stop ≡ false → Nears stop bound lines k s m q e
      ran_elsewhere q g t = record {
        same = led g ∙ rw t;
        some = λ z. let n = subst (Counted guards nowhere lines (k + (bound - k))) (sym g) (guarded_counted guards nowhere lines (bound - k) k s m) z in (omega (arith, n, l), omega (arith, n, all));
      }

      -- it is halted after some steps, or before the first
      pub halted_later : (h : Halt) → Given (Err h) → k < h.steps → Nears stop bound lines k s m (ended Made h.steps h.machine) e
      halted_later h g n = record { same = led g; some = λ z. (n, omega (arith, (far g).1, all)) }

      pub halted_first : (h : Halt) → Given (Err h) → h.steps ≤ k → e ≡ m
      halted_first h g n = ⊎_elim (λ x. absurd (omega (arith, x, n))) (λ x. x.1) (far g).2

-- ---- the test before the first step

module _ (size stop bound : ℕ) (lines : Lines) (s : Machine) where
  pub to_short : (m : List ℕ) → (size ≡ full_memory → ⊥) → Gives (run_to size stop bound lines s) m (ended MemoryNotFull 0 s) m
  unfolding run_to
  to_short m f = simp (ne_eqb _ _ f)

  pub to_whole : size ≡ full_memory → run_to size stop bound lines s ≡ run_while (elsewhere stop) bound 0 lines s
  unfolding run_to
  to_whole e = simp (eq-eqb _ _ e)

  -- what is left of it from a later machine gives what the whole of it gives
  pub arrives : (m : List ℕ) → size ≡ full_memory → {w : Ended × List ℕ} → toward stop bound lines 0 s m ≡ w → exec (run_to size stop bound lines s) m ≡ w
  arrives m full e = let all : bound - 0 ≡ bound = omega arith in rw (to_whole full) (rw all at e)
