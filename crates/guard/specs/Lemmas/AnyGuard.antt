-- A guarded run on a full memory, for any guards: what it has to do with the run, and with another memory.
use Rattle.std.specs.Prelude.{◌≡◌, ℕ, zero, suc, ◌+◌, ◌<◌, Bool, true, false, cond, List, [], ◌∷◌, ◌++◌, length, slice_index, slice_set, Option, Some, None, Ok, Err}
use Rattle.std.proofs.Math.Path.{refl, ap}
use Rattle.std.proofs.Common.{sym, ◌∙◌, subst, inl, inr, true≢false, arith}
use Rattle.std.proofs.Math.Logic.{⊎_elim}
use Rattle.std.proofs.Math.ListN.{length-set}
use Rattle.manual.specs.declared.Lines.{Lines}
use Rattle.manual.specs.declared.Machine.{Machine}
use Rattle.manual.specs.declared.Stepped.{Stepped}
use Rattle.manual.specs.declared.Reason.{Reason}
use Rattle.manual.specs.declared.Reason.TheVariants.{Made}
use Rattle.manual.specs.Micro.{Micro, done, read, write, exec, accesses, reads, stores, Gives}
use Rattle.manual.specs.Outcomes.{is_made, ended}
use Rattle.manual.specs.Stepping.{step_full, run_while, run_full}
use Rattle.manual.specs.ReadList.{listed_step_full, listed_run_full}
use Rattle.manual.specs.StoreList.{stored_by_step_full}
use Rattle.manual.specs.Lemmas.Programs.{◌∈◌, alike, exec_length, stores_bind}
use Rattle.manual.proofs.Theorems.Reads.{step_full_reads}
use Rattle.manual.proofs.Theorems.Stores.{step_full_stores}
use Rattle.manual.proofs.Theorems.Sealed.{Differ, Unsealed, agree_set, stores_alike, sealed}
use Rattle.manual.proofs.Lemmas.StepLaws.{was_made, was_refused, run_more, run_stop, run_end}
use Rattle.guard_maps.specs.declared.Touch.{Touch}
use Rattle.guard_maps.specs.Maps.{first_in, touching, ahead_of}
use Rattle.guard.specs.Guarded.{Guarded, ran, halted, unless, guarded_full}

-- the addresses that a guard marks
abbrev pub Under : (ℕ → Bool) → ℕ → Type 0
Under guards a = guards a ≡ true

-- ---- lists

module _ (guards : ℕ → Bool) where
  split : (t : Bool) (a : ℕ) (x : Option ℕ) → cond t (Some a) x ≡ None → (t ≡ false) × (x ≡ None)
  split true a x e = let z : ◌≡◌ {A = ℕ} 0 1 = cc in absurd (omega arith)
  split false a x e = (refl, e)

  pub nothing_guarded : (l : List ℕ) → first_in guards l ≡ None → Unsealed (Under guards) l
  unfolding first_in
  nothing_guarded [] e = λ a i s. i
  nothing_guarded (b ∷ l) e =
      let p = split (guards b) b (first_in guards l) e in
      λ a i s. ⊎_elim (λ (f : a ≡ b). absurd (true≢false (sym s ∙ ap guards f ∙ p.0))) (λ (j : a ∈ l). nothing_guarded l p.1 a j s) i

  both_unsealed : (l r : List ℕ) → Unsealed (Under guards) l → Unsealed (Under guards) r → Unsealed (Under guards) (l ++ r)
  both_unsealed [] r u v = v
  both_unsealed (b ∷ l) r u v =
      λ a i. ⊎_elim (λ (e : a ≡ b). u a (inl e)) (λ (j : a ∈ (l ++ r)). both_unsealed l r (λ x y. u x (inr y)) v a j) i

-- what is ahead, taken apart
pub nothing_ahead : (f g : Option ℕ) → touching f g ≡ None → (f ≡ None) × (g ≡ None)
nothing_ahead (Some a) g e = let z : ◌≡◌ {A = ℕ} 0 1 = cc in absurd (omega arith)
nothing_ahead None (Some a) e = let z : ◌≡◌ {A = ℕ} 0 1 = cc in absurd (omega arith)
nothing_ahead None None e = (refl, refl)

-- the first guarded address of a list is one of it, and guarded
pub first_guarded : (guards : ℕ → Bool) (l : List ℕ) (a : ℕ) → first_in guards l ≡ Some a → (a ∈ l) × Under guards a
unfolding first_in
first_guarded guards [] a e = let z : ◌≡◌ {A = ℕ} 0 1 = cc in absurd (omega arith)
first_guarded guards (b ∷ l) a e = by_test (guards b) refl e (first_guarded guards l a)
  where
    by_test : (t : Bool) → guards b ≡ t → cond t (Some b) (first_in guards l) ≡ Some a → (first_in guards l ≡ Some a → (a ∈ l) × Under guards a) → (a ∈ (b ∷ l)) × Under guards a
    by_test true s f more = let same : a ≡ b = cc in (inl same, rw same s)
    by_test false s f more = let h = more f in (inr h.0, h.1)

-- what is ahead, by what was found
abbrev pub Touched : (ℕ → Bool) → (ℕ → Bool) → List ℕ → List ℕ → Touch → Type 0
Touched guards against l k (Touch.Read a) = (a ∈ l) × Under guards a
Touched guards against l k (Touch.Store a) = Unsealed (Under guards) l × (a ∈ k) × Under against a

pub touched : (guards against : ℕ → Bool) (l k : List ℕ) (t : Touch) → touching (first_in guards l) (first_in against k) ≡ Some t → Touched guards against l k t
touched guards against l k t e = by_found (first_in guards l) (first_in against k) refl refl t e
  where
    by_found : (f g : Option ℕ) → first_in guards l ≡ f → first_in against k ≡ g → (t : Touch) → touching f g ≡ Some t → Touched guards against l k t
    by_found (Some b) g e h (Touch.Read a) z = let same : b ≡ a = cc in first_guarded guards l a (e ∙ ap Some same)
    by_found (Some b) g e h (Touch.Store a) z = let y : ◌≡◌ {A = ℕ} 0 1 = cc in absurd (omega arith)
    by_found None (Some b) e h (Touch.Read a) z = let y : ◌≡◌ {A = ℕ} 0 1 = cc in absurd (omega arith)
    by_found None (Some b) e h (Touch.Store a) z =
        let same : b ≡ a = cc in
        let there = first_guarded against k a (h ∙ ap Some same) in
        (nothing_guarded guards l e, there.0, there.1)
    by_found None None e h t z = let y : ◌≡◌ {A = ℕ} 0 1 = cc in absurd (omega arith)

pub would_touch : (guards against : ℕ → Bool) (lines : Lines) (s : Machine) (m : List ℕ) (t : Touch) → ahead_of guards against lines s m ≡ Some t
    → Touched guards against (listed_step_full lines s m) (stored_by_step_full lines s m) t
would_touch guards against lines s m t e = touched guards against (listed_step_full lines s m) (stored_by_step_full lines s m) t e

module _ (guards against : ℕ → Bool) (lines : Lines) where
  -- no step of a run touches a guarded address
  pub record Clean (n k : ℕ) (s : Machine) (m : List ℕ) : Type 0 where
    pub unread : Unsealed (Under guards) (listed_run_full n lines s m)
    pub unstored : Unsealed (Under against) (stores (run_full n k lines s) m)

  -- ---- a guarded run beside the run

  -- it made some steps, none of which touches a guarded address, and the next one would touch one
  pub record Halts (n k : ℕ) (s : Machine) (m : List ℕ) (t : Touch) (j : ℕ) (q : Machine) (e : List ℕ) : Type 0 where
    pub steps : ℕ
    pub fewer : steps < n
    pub count : j ≡ k + steps
    pub gives : Gives (run_full steps k lines s) m (ended Made j q) e
    pub clean : Clean steps k s m
    pub ahead : ahead_of guards against lines q e ≡ Some t

  abbrev pub Right : ℕ → ℕ → Machine → List ℕ → Guarded × List ℕ → Type 0
  Right n k s m (Ok q, e) = Gives (run_full n k lines s) m q e × Clean n k s m
  Right n k s m (Err h, e) = Halts n k s m h.touch h.steps h.machine e

  -- the machine and the memory after a step
  abbrev after : Machine → List ℕ → Machine
  after s m = (exec (step_full lines s) m).0.machine

  abbrev left : Machine → List ℕ → List ℕ
  left s m = (exec (step_full lines s) m).1

  abbrev reason_of : Machine → List ℕ → Reason
  reason_of s m = (exec (step_full lines s) m).0.reason

  -- nothing that a step touches is guarded
  abbrev Passes : Machine → List ℕ → Type 0
  Passes s m = Unsealed (Under guards) (listed_step_full lines s m) × Unsealed (Under against) (stored_by_step_full lines s m)

  passes : (s : Machine) (m : List ℕ) → ahead_of guards against lines s m ≡ None → Passes s m
  passes s m e =
      let none = nothing_ahead (first_in guards (listed_step_full lines s m)) (first_in against (stored_by_step_full lines s m)) e in
      (nothing_guarded guards (listed_step_full lines s m) none.0, nothing_guarded against (stored_by_step_full lines s m) none.1)

  -- a run of no steps touches nothing
  no_steps : (k : ℕ) (s : Machine) (m : List ℕ) → Clean 0 k s m
  unfolding run_full run_while accesses
  no_steps k s m = record { unread = λ a i z. i; unstored = λ a i z. i }

  -- one step more in front
  module _ (n k : ℕ) (s : Machine) (m : List ℕ) (p : Passes s m) where
    -- what the rest of the run stores to, if the step was made or was not
    abbrev rest_stores : Bool → List ℕ
    rest_stores t = stores (cond t (run_full n (k + 1) lines (after s m)) (done (ended (reason_of s m) k (after s m)))) (left s m)

    step_first : stores (run_full (suc n) k lines s) m ≡ stored_by_step_full lines s m ++ rest_stores (is_made (reason_of s m))
    unfolding run_full run_while
    step_first = stores_bind (step_full lines s) _ m ∙ ap (λ (l : List ℕ). l ++ rest_stores (is_made (reason_of s m))) (step_full_stores lines s m)

    clean_on : (t : Bool) → is_made (reason_of s m) ≡ t
        → Unsealed (Under guards) (cond t (listed_run_full n lines (after s m) (left s m)) [])
        → Unsealed (Under against) (rest_stores t)
        → Clean (suc n) k s m
    clean_on t e u v = record {
      unread =
          both_unsealed guards (listed_step_full lines s m) _ p.0
          (subst (λ (b : Bool). Unsealed (Under guards) (cond b (listed_run_full n lines (after s m) (left s m)) [])) (sym e) u);
      unstored =
          subst (Unsealed (Under against)) (sym step_first)
          (both_unsealed against (stored_by_step_full lines s m) _ p.1 (subst (λ (b : Bool). Unsealed (Under against) (rest_stores b)) (sym e) v));
    }

    longer : is_made (reason_of s m) ≡ true → Clean n (k + 1) (after s m) (left s m) → Clean (suc n) k s m
    longer made c = clean_on true made c.unread c.unstored

    only : is_made (reason_of s m) ≡ false → Clean (suc n) k s m
    unfolding accesses
    only e = clean_on false e (λ a i z. i) (λ a i z. i)

  module _ (n k : ℕ) (s : Machine) (m : List ℕ) (p : Passes s m) where
    more : (i : ℕ) → is_made (reason_of s m) ≡ true → exec (run_full (suc i) k lines s) m ≡ exec (run_full i (k + 1) lines (after s m)) (left s m)
    more i made = run_more lines s m _ _ refl i k (was_made (reason_of s m) made)

    after_step : is_made (reason_of s m) ≡ true → (w : Guarded × List ℕ) → Right n (k + 1) (after s m) (left s m) w → Right (suc n) k s m w
    after_step made (Ok q, e) h = (more n made ∙ h.0, longer n k s m p made h.1)
    after_step made (Err x, e) h = record {
      steps = suc h.steps;
      fewer = omega (arith, h.fewer);
      count = omega (arith, h.count);
      gives = more h.steps made ∙ h.gives;
      clean = longer h.steps k s m p made h.clean;
      ahead = h.ahead;
    }

    -- what the next step gives, by its answer
    by_answer : (t : Bool) → is_made (reason_of s m) ≡ t
        → Right n (k + 1) (after s m) (left s m) (guarded_full guards against n (k + 1) lines (after s m) (left s m))
        → Right (suc n) k s m
        (cond t (guarded_full guards against n (k + 1) lines (after s m) (left s m)) (ran (reason_of s m) k (after s m), left s m))
    by_answer true e h = after_step e (guarded_full guards against n (k + 1) lines (after s m) (left s m)) h
    by_answer false e h = (run_stop lines s m _ _ refl n k (was_refused (reason_of s m) e), only n k s m p e)

  by_ahead : (n k : ℕ) (s : Machine) (m : List ℕ) (x : Option Touch) → ahead_of guards against lines s m ≡ x
      → Right n (k + 1) (after s m) (left s m) (guarded_full guards against n (k + 1) lines (after s m) (left s m))
      → Right (suc n) k s m
      (unless x (λ t. (halted t k s, m))
      (cond (is_made (reason_of s m)) (guarded_full guards against n (k + 1) lines (after s m) (left s m)) (ran (reason_of s m) k (after s m), left s m)))
  by_ahead n k s m None e h = by_answer n k s m (passes s m e) (is_made (reason_of s m)) refl h
  by_ahead n k s m (Some t) e h = record {
    steps = 0;
    fewer = omega arith;
    count = omega arith;
    gives = run_end k lines s m;
    clean = no_steps k s m;
    ahead = e;
  }

  -- Every guarded run on a full memory is right.
  pub right : (n k : ℕ) (s : Machine) (m : List ℕ) → Right n k s m (guarded_full guards against n k lines s m)
  unfolding guarded_full
  right zero k s m = (run_end k lines s m, no_steps k s m)
  right (suc n) k s m = by_ahead n k s m (ahead_of guards against lines s m) refl (right n (k + 1) _ _)

  -- ---- two memories

  chosen : (t : Bool) (a : ℕ) (x y : Option ℕ) → (t ≡ false → x ≡ y) → cond t (Some a) x ≡ cond t (Some a) y
  chosen true a x y h = refl
  chosen false a x y h = h refl

  -- the first guarded address that a program reads does not depend on what is guarded: what it reads before is not
  same_first : {A : Type 0} (p : Micro A) (m₁ m₂ : List ℕ) → length m₁ ≡ length m₂
      → ((a : ℕ) → (Under guards a → ⊥) → slice_index m₁ a ≡ slice_index m₂ a)
      → first_in guards (reads p m₁) ≡ first_in guards (reads p m₂)
  unfolding accesses first_in
  same_first (done x) m₁ m₂ l h = refl
  same_first (read q k) m₁ m₂ l h =
      chosen (guards q) q _ _
      (λ e.
      same_first (k (slice_index m₁ q)) m₁ m₂ l h
      ∙ ap (λ (b : ℕ). first_in guards (reads (k b) m₂)) (h q (λ s. absurd (true≢false (sym s ∙ e)))))
  same_first (write q b k) m₁ m₂ l h =
      same_first k (slice_set m₁ q b) (slice_set m₂ q b) (simp length-set l) (λ a f. agree_set m₁ m₂ q b a l (h a f))

  module _ (s : Machine) (m₁ m₂ : List ℕ) (d : Differ (Under guards) m₁ m₂) where
    same_reads : first_in guards (listed_step_full lines s m₁) ≡ first_in guards (listed_step_full lines s m₂)
    same_reads =
        ap (first_in guards) (sym (step_full_reads lines s m₁))
        ∙ same_first (step_full lines s) m₁ m₂ (d.full₁ ∙ sym d.full₂) d.same
        ∙ ap (first_in guards) (step_full_reads lines s m₂)

    -- a step that reads nothing guarded stores to the same addresses
    same_stores : Unsealed (Under guards) (listed_step_full lines s m₁) → stored_by_step_full lines s m₁ ≡ stored_by_step_full lines s m₂
    same_stores u =
        sym (step_full_stores lines s m₁)
        ∙ stores_alike (Under guards) (step_full lines s) m₁ m₂ d (subst (Unsealed (Under guards)) (sym (step_full_reads lines s m₁)) u)
        ∙ step_full_stores lines s m₂

    by_read : (f f' : Option ℕ) (g g' : Option ℕ) → f ≡ f' → (f ≡ None → g ≡ g') → touching f g ≡ touching f' g'
    by_read (Some a) f' g g' e h = ap (λ (x : Option ℕ). touching x g') e
    by_read None f' g g' e h = ap (touching None) (h refl) ∙ ap (λ (x : Option ℕ). touching x g') e

    -- so what is ahead of a step does not depend on what is guarded against reads
    pub same_ahead : ahead_of guards against lines s m₁ ≡ ahead_of guards against lines s m₂
    same_ahead =
        by_read (first_in guards (listed_step_full lines s m₁)) (first_in guards (listed_step_full lines s m₂)) _ _ same_reads
        (λ e. ap (first_in against) (same_stores (nothing_guarded guards (listed_step_full lines s m₁) e)))

    -- a step that reads nothing guarded gives the same on both, and leaves memories that differ only at guarded addresses
    same_step : Unsealed (Under guards) (listed_step_full lines s m₁)
        → ((exec (step_full lines s) m₁).0 ≡ (exec (step_full lines s) m₂).0) × Differ (Under guards) (left s m₁) (left s m₂)
    same_step u =
        let h = sealed (Under guards) (step_full lines s) m₁ m₂ d (subst (Unsealed (Under guards)) (sym (step_full_reads lines s m₁)) u) refl refl in (
          h.0,
          record {
            full₁ = exec_length (step_full lines s) m₁ ∙ d.full₁;
            full₂ = exec_length (step_full lines s) m₂ ∙ d.full₂;
            same = h.1.elsewhere;
          },
        )

  -- two results: one answer, and memories that differ only at addresses guarded against reads
  abbrev pub Same : Guarded × List ℕ → Guarded × List ℕ → Type 0
  Same w₁ w₂ = (w₁.0 ≡ w₂.0) × Differ (Under guards) w₁.1 w₂.1

  abbrev goes : ℕ → ℕ → Stepped → List ℕ → Guarded × List ℕ
  goes n k q m = cond (is_made q.reason) (guarded_full guards against n (k + 1) lines q.machine m) (ran q.reason k q.machine, m)

  next : (n k : ℕ)
      → ((s : Machine) (m₁ m₂ : List ℕ) → Differ (Under guards) m₁ m₂ → Same (guarded_full guards against n (k + 1) lines s m₁) (guarded_full guards against n (k + 1) lines s m₂))
      → (q₁ q₂ : Stepped) (m₁ m₂ : List ℕ) → q₁ ≡ q₂ → Differ (Under guards) m₁ m₂ → Same (goes n k q₁ m₁) (goes n k q₂ m₂)
  next n k again q₁ q₂ m₁ m₂ e d =
      subst (λ (q : Stepped). Same (goes n k q₁ m₁) (goes n k q m₂)) e
      (alike Same (is_made q₁.reason) _ _ _ _ (again q₁.machine m₁ m₂ d) (refl, d))

  by_one : (x : Option Touch) (k : ℕ) (s : Machine) (m₁ m₂ : List ℕ) (w₁ w₂ : Guarded × List ℕ) → Differ (Under guards) m₁ m₂
      → (x ≡ None → Same w₁ w₂)
      → Same (unless x (λ t. (halted t k s, m₁)) w₁) (unless x (λ t. (halted t k s, m₂)) w₂)
  by_one None k s m₁ m₂ w₁ w₂ d h = h refl
  by_one (Some t) k s m₁ m₂ w₁ w₂ d h = (refl, d)

  by_both : (x₁ x₂ : Option Touch) (k : ℕ) (s : Machine) (m₁ m₂ : List ℕ) (w₁ w₂ : Guarded × List ℕ) → x₁ ≡ x₂ → Differ (Under guards) m₁ m₂
      → (x₁ ≡ None → Same w₁ w₂)
      → Same (unless x₁ (λ t. (halted t k s, m₁)) w₁) (unless x₂ (λ t. (halted t k s, m₂)) w₂)
  by_both x₁ x₂ k s m₁ m₂ w₁ w₂ e d h =
      subst (λ (x : Option Touch). Same (unless x₁ (λ t. (halted t k s, m₁)) w₁) (unless x (λ t. (halted t k s, m₂)) w₂)) e
      (by_one x₁ k s m₁ m₂ w₁ w₂ d h)

  -- Two full memories that differ only at addresses guarded against reads give one answer, and memories that differ only there.
  pub same_guarded : (n k : ℕ) (s : Machine) (m₁ m₂ : List ℕ) → Differ (Under guards) m₁ m₂
      → Same (guarded_full guards against n k lines s m₁) (guarded_full guards against n k lines s m₂)
  unfolding guarded_full
  same_guarded zero k s m₁ m₂ d = (refl, d)
  same_guarded (suc n) k s m₁ m₂ d =
      by_both (ahead_of guards against lines s m₁) (ahead_of guards against lines s m₂) k s m₁ m₂ _ _ (same_ahead s m₁ m₂ d) d
      (λ e.
      let h = same_step s m₁ m₂ d (passes s m₁ e).0 in
      next n k (same_guarded n (k + 1)) _ _ _ _ h.0 h.1)
