-- What the promise of `guarded_run` is worth. `guards` and `against` are any tests of addresses, the maps of the two kinds among them: what is
-- guarded against reads, and what is guarded against stores.
use Rattle.std.specs.Prelude.{◌≡◌, ℕ, ◌<◌, Bool, true, false, cond, List, length, ◌==◌, nat_eq, Some, Ok, Err}
use Rattle.std.proofs.Math.Path.{refl, sym, subst}
use Rattle.std.proofs.Common.{ap, ◌∙◌, arith, eqb-true, eq-eqb}
use Rattle.manual.specs.declared.Lines.{Lines}
use Rattle.manual.specs.declared.Machine.{Machine}
use Rattle.manual.specs.declared.Ended.{Ended}
use Rattle.manual.specs.declared.Reason.TheVariants.{Made, MemoryNotFull}
use Rattle.manual.specs.Micro.{accesses, reads, stores, Gives}
use Rattle.manual.specs.Outcomes.{ended}
use Rattle.manual.specs.Stepping.{full_memory, step_full, step, run_full, long_run}
use Rattle.manual.specs.ReadList.{listed_long_run}
use Rattle.manual.specs.Lemmas.Programs.{◌∈◌}
use Rattle.manual.proofs.Lemmas.StepLaws.{long_whole}
use Rattle.manual.proofs.Theorems.Reads.{step_full_reads}
use Rattle.manual.proofs.Theorems.Stores.{step_full_stores}
use Rattle.manual.proofs.Theorems.Sealed.{Differ, Unsealed, Kept, long_run_sealed}
use Rattle.guard_maps.specs.declared.Touch.{Touch}
use Rattle.guard_maps.specs.Maps.{ahead_of}
use Rattle.guard.specs.Guarded.{Guarded, ran, halted, guarded_full, guarded}
use Rattle.guard.specs.Lemmas.AnyGuard.{Under, Clean, Halts, Right, right, Same, same_guarded, would_touch}

-- ---- beside the run

module _ (guards against : ℕ → Bool) (size bound : ℕ) (lines : Lines) (s : Machine) (m : List ℕ) where
  -- the run of j steps touches nothing guarded
  pub record Untouching (j : ℕ) : Type 0 where
    pub unread : Unsealed (Under guards) (listed_long_run size j lines s m)
    pub unstored : Unsealed (Under against) (stores (long_run size j lines s) m)

  -- what a step would touch: a guarded byte that it reads, or none of these, and a guarded byte that it stores to
  abbrev pub Would : Touch → Machine → List ℕ → Type 0
  Would (Touch.Read a) t e = (a ∈ reads (step size lines t) e) × Under guards a
  Would (Touch.Store a) t e = Unsealed (Under guards) (reads (step size lines t) e) × (a ∈ stores (step size lines t) e) × Under against a

  -- it made j steps, as the run of j steps does, none of which touches anything guarded; the next one would
  pub record Stopped (touch : Touch) (j : ℕ) (t : Machine) (e : List ℕ) : Type 0 where
    pub full : size ≡ full_memory
    pub fewer : j < bound
    pub gives : Gives (long_run size j lines s) m (ended Made j t) e
    pub untouching : Untouching j
    pub ahead : ahead_of guards against lines t e ≡ Some touch
    pub would : Would touch t e

  abbrev Meant : Guarded × List ℕ → Type 0
  Meant (Ok q, e) = Gives (long_run size bound lines s) m q e × Untouching bound
  Meant (Err h, e) = Stopped h.touch h.steps h.machine e

  module _ (f : size ≡ full_memory) where
    same_run : (j : ℕ) → long_run size j lines s ≡ run_full j 0 lines s
    same_run j = long_whole size j lines s f

    untouching : (j : ℕ) → Clean guards against lines j 0 s m → Untouching j
    untouching j c = record {
      unread = rw (eq-eqb size full_memory f) c.unread;
      unstored = rw (same_run j) c.unstored;
    }

    same_step : (t : Machine) → step size lines t ≡ step_full lines t
    unfolding step
    same_step t = rw (eq-eqb size full_memory f)

    would_by : (touch : Touch) (t : Machine) (e : List ℕ) → ahead_of guards against lines t e ≡ Some touch → Would touch t e
    would_by (Touch.Read a) t e h = rw (same_step t, step_full_reads lines t e) (would_touch guards against lines t e (Touch.Read a) h)
    would_by (Touch.Store a) t e h = rw (same_step t, step_full_reads lines t e, step_full_stores lines t e) (would_touch guards against lines t e (Touch.Store a) h)

    stopped : (touch : Touch) (j : ℕ) (t : Machine) (e : List ℕ) → Halts guards against lines bound 0 s m touch j t e → Stopped touch j t e
    stopped touch j t e w =
        let same : w.steps ≡ j = omega (arith, w.count) in
        record {
          full = f;
          fewer = omega (arith, w.fewer, same);
          gives = rw (same_run j) (subst (λ (i : ℕ). Gives (run_full i 0 lines s) m (ended Made j t) e) same w.gives);
          untouching = untouching j (subst (λ (i : ℕ). Clean guards against lines i 0 s m) same w.clean);
          ahead = w.ahead;
          would = would_by touch t e w.ahead;
        }

    lifted : (w : Guarded × List ℕ) → Right guards against lines bound 0 s m w → Meant w
    lifted (Ok q, e) r = (rw (same_run bound) r.0, untouching bound r.1)
    lifted (Err h, e) r = stopped h.touch h.steps h.machine e r

  short : nat_eq size full_memory ≡ false → Meant (ran MemoryNotFull 0 s, m)
  unfolding long_run accesses
  short e = (rw e, record { unread = rw e (λ a i z. i); unstored = rw e (λ a i z. i) })

  meant_by : (t : Bool) → (size == full_memory) ≡ t → Meant (cond t (guarded_full guards against bound 0 lines s m) (ran MemoryNotFull 0 s, m))
  meant_by true e = lifted (eqb-true size full_memory e) (guarded_full guards against bound 0 lines s m) (right guards against lines bound 0 s m)
  meant_by false e = short e

  meant : Meant (guarded guards against size bound lines s m)
  unfolding guarded
  meant = meant_by (size == full_memory) refl

  -- If the guarded run answers as a run, it is the run: the same reason, steps, registers, cycles and memory; and that run reads no byte that is
  -- guarded against reads, and stores to none that is guarded against stores.
  pub ran_right : (q : Ended) (e : List ℕ) → guarded guards against size bound lines s m ≡ (Ok q, e)
      → Gives (long_run size bound lines s) m q e × Untouching bound
  ran_right q e h = subst Meant h meant

  -- If it answers that it was halted, it made the steps that it counts, as the run does, and none of them touches a guarded byte; the next
  -- step would touch the one that it names.
  pub halted_right : (touch : Touch) (j : ℕ) (t : Machine) (e : List ℕ) → guarded guards against size bound lines s m ≡ (halted touch j t, e)
      → Stopped touch j t e
  halted_right touch j t e h = subst Meant h meant

-- ---- two memories

module _ (guards against : ℕ → Bool) (bound : ℕ) (lines : Lines) (s : Machine) (m₁ m₂ : List ℕ) (d : Differ (Under guards) m₁ m₂) where
  same_by : (t : Bool)
      → Same guards against lines (cond t (guarded_full guards against bound 0 lines s m₁) (ran MemoryNotFull 0 s, m₁))
      (cond t (guarded_full guards against bound 0 lines s m₂) (ran MemoryNotFull 0 s, m₂))
  same_by true = same_guarded guards against lines bound 0 s m₁ m₂ d
  same_by false = (refl, d)

  apart : Same guards against lines (guarded guards against (length m₁) bound lines s m₁) (guarded guards against (length m₂) bound lines s m₂)
  unfolding guarded
  apart =
      subst (λ (n : ℕ). Same guards against lines (guarded guards against (length m₁) bound lines s m₁) (guarded guards against n bound lines s m₂)) (d.full₁ ∙ sym d.full₂)
      (same_by (length m₁ == full_memory))

-- ---- the code's answers

module _ (guards against : ℕ → Bool) (bound : ℕ) (lines : Lines) (s : Machine) (m₁ m₂ : List ℕ) {e₁ e₂ : List ℕ} (d : Differ (Under guards) m₁ m₂) where
  -- No answer of a guarded run depends on a byte that is guarded against reads, and no byte that it leaves elsewhere. On two full memories that
  -- differ only in such bytes it answers the same: reason, steps, registers, cycles, and what it would have touched; and it leaves the same
  -- bytes elsewhere. There is no condition.
  pub guarded_apart : (r₁ r₂ : Guarded)
      → (r₁, e₁) ≡ guarded guards against (length m₁) bound lines s m₁
      → (r₂, e₂) ≡ guarded guards against (length m₂) bound lines s m₂
      → (r₁ ≡ r₂) × Differ (Under guards) e₁ e₂
  guarded_apart r₁ r₂ g₁ g₂ =
      subst (λ (w : Guarded × List ℕ). Same guards against lines w (r₂, e₂)) (sym g₁)
      (subst (λ (w : Guarded × List ℕ). Same guards against lines (guarded guards against (length m₁) bound lines s m₁) w) (sym g₂) (apart guards against bound lines s m₁ m₂ d))

  -- The oath. If the guarded run answered as a run, the run without guards gives that same answer on every memory that differs only in bytes that
  -- are guarded against reads, and the same bytes elsewhere; such a byte that was stored to is the same too, and any other is what it was.
  pub oath : (q₁ q₂ : Ended)
      → (Ok q₁, e₁) ≡ guarded guards against (length m₁) bound lines s m₁
      → Gives (long_run (length m₂) bound lines s) m₂ q₂ e₂
      → (q₁ ≡ q₂) × Kept (Under guards) (stores (long_run (length m₁) bound lines s) m₁) m₁ m₂ e₁ e₂
  oath q₁ q₂ w g =
      let r = ran_right guards against (length m₁) bound lines s m₁ q₁ e₁ (sym w) in
      long_run_sealed (Under guards) bound lines s m₁ m₂ d r.1.unread r.0 g

-- The promise admits one result: an answer and a memory that meet it are those of the definition.
pub one_result : (w : Guarded × List ℕ) {r₁ r₂ : Guarded} {e₁ e₂ : List ℕ} → (r₁, e₁) ≡ w → (r₂, e₂) ≡ w → (r₁ ≡ r₂) × (e₁ ≡ e₂)
one_result w g₁ g₂ =
    let h = g₁ ∙ sym g₂ in
    (ap (λ (v : Guarded × List ℕ). v.0) h, ap (λ (v : Guarded × List ℕ). v.1) h)
