-- Every log that is printed from an honest run is accepted.
use Rattle.std.specs.Prelude.{ℕ, zero, suc, ◌≤◌, ◌<◌, ◌≡◌, refl, List, [], ◌∷◌, length, Some}
use Rattle.std.proofs.Common.{ap, sym, ◌∙◌, subst, arith}
use Rattle.std.proofs.Math.Decide.{dec_lt}
use Rattle.laws.specs.Answers.{not_refused}
use Rattle.manual.specs.declared.Machine.{Machine}
use Rattle.manual.specs.declared.Stepped.{Stepped}
use Rattle.manual.specs.declared.Ended.{Ended}
use Rattle.manual.specs.declared.Reason.{Reason}
use Rattle.manual.specs.declared.Reason.TheVariants.{Made}
use Rattle.manual.specs.Micro.{exec, Gives}
use Rattle.manual.specs.Outcomes.{number, stepped}
use Rattle.manual.specs.Interrupts.{idle}
use Rattle.manual.specs.Stepping.{full_memory, highest_count, step_full, run}
use Rattle.manual.specs.Lemmas.Programs.{exec_length}
use Rattle.manual.proofs.Lemmas.StepLaws.{step_whole}
use Rattle.manual.specs.Theorems.Within.{Bytes}
use Rattle.manual.proofs.Theorems.Answers.{step_answers}
use Rattle.manual.proofs.Theorems.RunAnswers.{Leads, all_made_lem, no_cycle_room_lem, not_an_opcode_lem, RunTable, ran, memory_not_full_lem, bound_too_high_lem, run_answers}
use Rattle.manual.proofs.Theorems.Ranges.{StepInRange, step_ranges}
use Rattle.manual.proofs.Theorems.Serving.{recorded}
use Rattle.trace_line.specs.Lines.{Spellable}
use Rattle.trace_step.specs.Following.{OneStep}
use Rattle.trace_checking.specs.Checking.{checked_of, checked_trace}
use Rattle.trace_checking.specs.Logs.{log_text, AllSpellable, Follow}
use Rattle.trace_checking.specs.Theorems.Verdicts.{log_accepted}

-- the states after each of n steps, with idle lines
abbrev pub later_states : ℕ → Machine → List ℕ → List Machine
later_states zero s m = []
later_states (suc n) s m = let w = exec (step_full idle s) m in w.0.machine ∷ later_states n w.0.machine w.1

-- the log of n steps: n + 1 entries
abbrev pub printed : ℕ → Machine → List ℕ → List ℕ
printed n s m = log_text (s ∷ later_states n s m)

module _ (s : Machine) (m : List ℕ) (full : length m ≡ full_memory) {t : Machine} {m₁ : List ℕ} (one : OneStep s m t m₁) where
  -- a step that is made has room
  has_room : s.cycles ≤ highest_count
  has_room = go (dec_lt highest_count s.cycles)
    where
      go : Dec (highest_count < s.cycles) → s.cycles ≤ highest_count
      go (yes l) =
          let two = (step_answers (length m) idle s m).two.1 (full, l) in
          absurd (omega (arith, two, ap (λ (w : Stepped × List ℕ). number w.0.reason) one.1))
      go (no f) = omega arith

  -- and leaves a state that can be printed
  made_spellable : Spellable s → Bytes m → Spellable t × Bytes m₁
  made_spellable h b =
      let kept = subst (λ (w : Stepped × List ℕ). StepInRange s.cycles w.0 × Bytes w.1) one.1 (step_ranges (length m) idle s m h.registers b) in (
        record {
          registers = kept.0.0.registers;
          cycles = omega (arith, kept.0.0.cycles, has_room);
          nmi = recorded idle s m (ap (λ p. exec p m) (sym (step_whole (length m) idle s full)) ∙ one.1) refl;
        },
        kept.1,
      )

-- the first of the steps that were made
first_step : (s : Machine) (m : List ℕ) (q : Stepped) (m₁ : List ℕ) → length m ≡ full_memory → Gives (step_full idle s) m q m₁ → q.reason ≡ Made
    → OneStep s m q.machine m₁
first_step s m q m₁ full g made = (
  q.first,
  ap (λ p. exec p m) (step_whole (length m) idle s full) ∙ g ∙ ap (λ (r : Reason). (stepped r q.first q.machine, m₁)) made,
)

-- steps that are made leave a state that can be printed, and bytes
pub led_spellable : (n : ℕ) (s : Machine) (m : List ℕ) (s' : Machine) (m' : List ℕ) → length m ≡ full_memory → Spellable s → Bytes m → Leads n idle s m s' m'
    → Spellable s' × Bytes m'
led_spellable zero s m s' m' full h b led = (subst Spellable led.0 h, subst Bytes led.1 b)
led_spellable (suc n) s m s' m' full h b led =
    let one = first_step s m led.0 led.1 full led.2 led.3 in
    let size : length led.1 ≡ full_memory = ap (λ (w : Stepped × List ℕ). length w.1) (sym led.2) ∙ exec_length (step_full idle s) m ∙ full in
    let kept = made_spellable s m full one h b in
    led_spellable n led.0.machine led.1 s' m' size kept.0 kept.1 led.4

honest_steps : (n : ℕ) (s : Machine) (m : List ℕ) (s' : Machine) (m' : List ℕ) → length m ≡ full_memory → Spellable s → Bytes m → Leads n idle s m s' m'
    → AllSpellable (later_states n s m) × Follow (Some s) m (later_states n s m) (Some s') m'
honest_steps zero s m s' m' full h b led = (tt, (ap Some led.0, led.1))
honest_steps (suc n) s m s' m' full h b led =
    let one = first_step s m led.0 led.1 full led.2 led.3 in
    let same_state : (exec (step_full idle s) m).0.machine ≡ led.0.machine = ap (λ (w : Stepped × List ℕ). w.0.machine) led.2 in
    let same_memory : (exec (step_full idle s) m).1 ≡ led.1 = ap (λ (w : Stepped × List ℕ). w.1) led.2 in
    let size : length led.1 ≡ full_memory = ap length (sym same_memory) ∙ exec_length (step_full idle s) m ∙ full in
    let kept = made_spellable s m full one h b in
    let further = honest_steps n led.0.machine led.1 s' m' size kept.0 kept.1 led.4 in
    rw (same_state, same_memory) ((kept.0, further.0), (led.1, one, further.1))

module _ (image copy : List ℕ) (s : Machine) (full : length image ≡ full_memory) (full-copy : length copy ≡ full_memory) (bytes : Bytes image) (h : Spellable s) where
  -- However many steps are made, the log of their states is accepted, and the copy is left as they leave the memory.
  pub honest_accepted : (n : ℕ) (s' : Machine) (m' : List ℕ) → Leads n idle s image s' m'
      → checked_trace image (printed n s image) copy ≡ (checked_of not_refused 0, m')
  honest_accepted n s' m' led =
      let steps = honest_steps n s image s' m' full h bytes led in
      log_accepted image (printed n s image) copy full full-copy m'
      (record {
        first = s;
        others = later_states n s image;
        last = Some s';
        spellable = (h, steps.0);
        spelled = refl;
        follow = steps.1;
      })

  -- The same for a run, whatever its answer: of one that was stopped the steps that it made.
  pub run_accepted : (bound : ℕ) {q : Ended} {m' : List ℕ} → Gives (run (length image) bound idle s) image q m'
      → checked_trace image (printed q.steps s image) copy ≡ (checked_of not_refused 0, m')
  run_accepted bound g = by_table ((run_answers (length image) bound idle s image).0 g)
    where
      by_table : {q : Ended} {m' : List ℕ} → RunTable (length image) bound idle s image q m'
          → checked_trace image (printed q.steps s image) copy ≡ (checked_of not_refused 0, m')
      by_table (ran a (all_made_lem led)) = honest_accepted bound _ _ led
      by_table (ran a (no_cycle_room_lem {k} l led r)) = honest_accepted k _ _ led
      by_table (ran a (not_an_opcode_lem {k} l led r)) = honest_accepted k _ _ led
      by_table (memory_not_full_lem f) = absurd (f full)
      by_table (bound_too_high_lem e l) = honest_accepted 0 s image (refl, refl)
