-- A run by cycles (P11) made of runs by steps. Each is of so many that its limit is not spent before the last of them: a step takes at most seven
-- cycles.
use Rattle.std.specs.Prelude.{ℕ, zero, suc, ◌+◌, ◌-◌, ◌*◌, ◌/◌, ◌≤◌, ◌<◌, ◌≡◌, refl, true, false, List}
use Rattle.std.proofs.Common.{ap, ◌∙◌, arith}
use Rattle.manual.specs.declared.Lines.{Lines}
use Rattle.manual.specs.declared.Machine.{Machine}
use Rattle.manual.specs.declared.Ended.{Ended}
use Rattle.manual.specs.declared.Reason.{Reason}
use Rattle.manual.specs.declared.Reason.TheVariants.{Made, NoCycleRoom, NotAnOpcode}
use Rattle.manual.specs.Micro.{exec, Gives}
use Rattle.manual.specs.Outcomes.{is_made, refused, ended}
use Rattle.manual.specs.Stepping.{step_full, run_full, spend_full}
use Rattle.manual.proofs.Lemmas.StepLaws.{step_late, step_undefined, was_made, was_refused}
use Rattle.manual.proofs.Theorems.RunAnswers.{Leads, Ends, all_made_lem, no_cycle_room_lem, not_an_opcode_lem, run_ends}
use Rattle.manual.proofs.Theorems.Spending.{step_takes, spend_over, spend_more, spend_refused}

-- each step takes one to seven cycles
led_takes : (k : ℕ) (lines : Lines) (s : Machine) (m : List ℕ) (s' : Machine) (m' : List ℕ) → Leads k lines s m s' m'
    → (s.cycles + k ≤ s'.cycles) × (s'.cycles ≤ s.cycles + 7 * k)
led_takes zero lines s m s' m' led = let e : s.cycles ≡ s'.cycles = ap (λ (q : Machine). q.cycles) led.0 in (omega arith, omega arith)
led_takes (suc k) lines s m s' m' led =
    let first = step_takes lines s m led.2 led.3 in
    let rest = led_takes k lines led.0.machine led.1 s' m' led.4 in
    (omega (arith, first, rest), omega (arith, first, rest))

-- a run by cycles of which so many steps are made, where none but the last can spend its limit, goes on from where they lead
spend_after : (k n until j : ℕ) (lines : Lines) (s : Machine) (m : List ℕ) (s' : Machine) (m' : List ℕ) → Leads k lines s m s' m'
    → s.cycles + 7 * k < until + 7
    → exec (spend_full (k + n) until j lines s) m ≡ exec (spend_full n until (j + k) lines s') m'
spend_after zero n until j lines s m s' m' led l =
    let e : 0 + n ≡ n = omega arith in
    let f : j + 0 ≡ j = omega arith in
    rw (e, f, led.0, led.1)
spend_after (suc k) n until j lines s m s' m' led l =
    let e : suc k + n ≡ suc (k + n) = omega arith in
    let f : j + suc k ≡ j + 1 + k = omega arith in
    rw (e, f)
    (spend_more lines s m led.0 led.1 led.2 (k + n) until j (omega arith) led.3
    ∙ spend_after k n until (j + 1) lines led.0.machine led.1 s' m' led.4 (omega (arith, step_takes lines s m led.2 led.3)))

module _ (limit : ℕ) (lines : Lines) (s₀ : Machine) (m₀ : List ℕ) where
  abbrev until : ℕ
  until = s₀.cycles + limit

  abbrev Whole : Ended → List ℕ → Type 0
  Whole = Gives (spend_full limit until 0 lines s₀) m₀

  -- Of a run by cycles so many steps are made: what is left of it goes on from a machine and a memory.
  pub record Budget (steps : ℕ) (s : Machine) (m : List ℕ) : Type 0 where
    pub rest : exec (spend_full limit until 0 lines s₀) m₀ ≡ exec (spend_full (limit - steps) until steps lines s) m
    pub least : s₀.cycles + steps ≤ s.cycles

  pub unspent : Budget 0 s₀ m₀
  unspent = record {
    rest = let e : limit ≡ limit - 0 = omega arith in ap (λ (n : ℕ). exec (spend_full n until 0 lines s₀) m₀) e;
    least = omega arith;
  }

  module _ {steps : ℕ} {s : Machine} {m : List ℕ} (budget : Budget steps s m) where
    pub spent : until ≤ s.cycles → Whole (ended Made steps s) m
    spent h = budget.rest ∙ spend_over (limit - steps) until steps lines s m h

    -- a run of n steps, which begin before the limit is spent
    module _ (n : ℕ) (some : 0 < n) (few : s.cycles + 7 * n < until + 7) where
      -- What it makes of it.
      pub record Pays (q : Ended) (m' : List ℕ) : Type 0 where
        pub fits : steps + q.steps ≤ limit
        pub goes : is_made q.reason ≡ true → (s.cycles < q.machine.cycles) × Budget (steps + q.steps) q.machine m'
        pub stops : is_made q.reason ≡ false → Whole (ended q.reason (steps + q.steps) q.machine) m'

      after : (k : ℕ) (s' : Machine) (m' : List ℕ) → k ≤ n → Leads k lines s m s' m' → Budget (steps + k) s' m'
      after k s' m' l led =
          let e : limit - steps ≡ k + (limit - (steps + k)) = omega (arith, budget.least) in
          record {
            rest = budget.rest
                ∙ ap (λ (i : ℕ). exec (spend_full i until steps lines s) m) e
                ∙ spend_after k (limit - (steps + k)) until steps lines s m s' m' led (omega arith);
            least = omega (arith, budget.least, led_takes k lines s m s' m' led);
          }

      refusal : (k : ℕ) (r : Reason) (s' : Machine) (m' : List ℕ) → k < n → Leads k lines s m s' m' → is_made r ≡ false
          → Gives (step_full lines s') m' (refused r s') m' → Pays (ended r k s') m'
      refusal k r s' m' l led f g =
          let e : limit - (steps + k) ≡ suc (limit - (steps + k) - 1) = omega (arith, budget.least) in
          record {
            fits = omega (arith, budget.least);
            goes = λ made. absurd (was_refused r f (was_made r made));
            stops = λ f.
                (after k s' m' (omega arith) led).rest
                ∙ ap (λ (i : ℕ). exec (spend_full i until (steps + k) lines s') m') e
                ∙ spend_refused lines s' m' (refused r s') m' g (limit - (steps + k) - 1) until (steps + k) (omega (arith, led_takes k lines s m s' m' led)) (was_refused r f);
          }

      by_end : {q : Ended} {m' : List ℕ} → Ends n lines s m q m' → Pays q m'
      by_end (all_made_lem {s'} {m'} led) = record {
        fits = omega (arith, budget.least);
        goes = λ made. (omega (arith, led_takes n lines s m s' m' led), after n s' m' (omega arith) led);
        stops = λ f. absurd (was_refused Made f refl);
      }
      by_end (no_cycle_room_lem {k} {s'} {m'} l led r) = refusal k NoCycleRoom s' m' l led refl (step_late lines s' m' r)
      by_end (not_an_opcode_lem {k} {s'} {m'} l led r) = refusal k NotAnOpcode s' m' l led refl (step_undefined lines s' m' r.0 r.1 r.2)

      pub pays : {q : Ended} {m' : List ℕ} → Gives (run_full n 0 lines s) m q m' → Pays q m'
      pays g = by_end (run_ends n lines s m g)

    -- the run that the loop makes: of as many steps as begin before the limit is spent
    module _ (n : ℕ) (sure : n ≡ (limit - (s.cycles - s₀.cycles) - 1) / 7 + 1) (on : s.cycles - s₀.cycles < limit) where
      pub some : 0 < n
      some = omega (arith, sure)

      pub few : s.cycles + 7 * n < until + 7
      few = omega (arith, sure, on, budget.least)

      pub sure_pays : {q : Ended} {m' : List ℕ} → Gives (run_full n 0 lines s) m q m' → Pays n some few q m'
      sure_pays g = pays n some few g
