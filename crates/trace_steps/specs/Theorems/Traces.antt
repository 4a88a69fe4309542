-- What is printed of a run is a log that the check accepts, and one that is printed in parts is the whole.
use Rattle.std.specs.Prelude.{ℕ, zero, suc, ◌+◌, ◌-◌, ◌<◌, ◌≡◌, refl, Bool, true, false, cond, List, [], ◌++◌, length}
use Rattle.std.proofs.Common.{ap, sym, ◌∙◌, append_assoc, zero-add, suc-add, arith}
use Rattle.laws.specs.Answers.{not_refused}
use Rattle.manual.specs.declared.Machine.{Machine}
use Rattle.manual.specs.declared.Stepped.{Stepped}
use Rattle.manual.specs.declared.Ended.{Ended}
use Rattle.manual.specs.declared.Reason.{Reason}
use Rattle.manual.specs.declared.Reason.TheVariants.{Made, NoCycleRoom, NotAnOpcode}
use Rattle.manual.specs.Micro.{done, exec, Gives}
use Rattle.manual.specs.Outcomes.{is_made, refused, ended}
use Rattle.manual.specs.Interrupts.{idle}
use Rattle.manual.specs.Stepping.{run_while, full_memory, step_full, run_full, long_run}
use Rattle.manual.specs.Lemmas.Programs.{exec_bind}
use Rattle.manual.proofs.Lemmas.StepLaws.{long_whole, step_late, step_undefined, was_refused}
use Rattle.manual.specs.Theorems.Within.{Bytes}
use Rattle.manual.proofs.Theorems.RunAnswers.{Leads, Ends, all_made_lem, no_cycle_room_lem, not_an_opcode_lem, run_ends}
use Rattle.trace_line.specs.Lines.{Spellable, line_text}
use Rattle.trace_checking.specs.Checking.{checked_of, checked_trace}
use Rattle.trace_checking.specs.Logs.{log_text}
use Rattle.trace_checking.specs.Theorems.Honest.{later_states, honest_accepted}
use Rattle.trace_text.specs.declared.View.{View}
use Rattle.trace_text.specs.declared.View.TheVariants.{States}
use Rattle.trace_steps.specs.Traces.{shown, full_trace, trace}
use Rattle.trace_steps.specs.Lemmas.Traces.{on_full_lem}

-- where k steps are made, n of them at most, and then none: their lines
made_lines : (k n : ℕ) (s : Machine) (m : List ℕ) (s' : Machine) (m' : List ℕ) → Leads k idle s m s' m' → full_trace States n s' m' ≡ []
    → full_trace States (k + n) s m ≡ log_text (later_states k s m)
unfolding full_trace
made_lines zero n s m s' m' led none =
    let count : 0 + n ≡ n = omega arith in
    rw (count, led.0, led.1) none
made_lines (suc k) n s m s' m' led none =
    let count : suc k + n ≡ suc (k + n) = omega arith in
    rw (count, led.2, led.3)
    (ap (λ (l : List ℕ). line_text led.0.machine ++ l) (made_lines k n led.0.machine led.1 s' m' led.4 none))

no_lines : (s : Machine) (m : List ℕ) → full_trace States 0 s m ≡ []
unfolding full_trace
no_lines s m = refl

-- a step that is refused ends them
refused_line : (n : ℕ) (s : Machine) (m : List ℕ) (q : Stepped) (m' : List ℕ) → Gives (step_full idle s) m q m' → is_made q.reason ≡ false → full_trace States (suc n) s m ≡ []
unfolding full_trace
refused_line n s m q m' g h = rw (g, h)

module _ (image copy : List ℕ) (s : Machine) (full : length image ≡ full_memory) (full-copy : length copy ≡ full_memory) (bytes : Bytes image) (h : Spellable s) where
  -- The line of a state and the trace of a run from it are accepted, however many steps were asked for and however the run ends.
  pub trace_accepted : (n : ℕ) {q : Ended} {m' : List ℕ} → Gives (long_run (length image) n idle s) image q m'
      → checked_trace image (line_text s ++ trace States n s image) copy ≡ (checked_of not_refused 0, m')
  trace_accepted n {q} {m'} g = by_end (run_ends n idle s image (rw (long_whole (length image) n idle s full) at g))
    where
      of_lines : (k : ℕ) (s' : Machine) (m'' : List ℕ) → Leads k idle s image s' m'' → trace States n s image ≡ log_text (later_states k s image)
          → checked_trace image (line_text s ++ trace States n s image) copy ≡ (checked_of not_refused 0, m'')
      of_lines k s' m'' led e =
          ap (λ (t : List ℕ). checked_trace image (line_text s ++ t) copy) e ∙ honest_accepted image copy s full full-copy bytes h k s' m'' led

      stopped : (k : ℕ) (s' : Machine) (m'' : List ℕ) (r : Reason) → k < n → Leads k idle s image s' m'' → Gives (step_full idle s') m'' (refused r s') m''
          → is_made r ≡ false → trace States n s image ≡ log_text (later_states k s image)
      stopped k s' m'' r l led step e =
          let count : n ≡ k + suc (n - suc k) = omega arith in
          on_full_lem States n s image full
          ∙ ap (λ (j : ℕ). full_trace States j s image) count
          ∙ made_lines k (suc (n - suc k)) s image s' m'' led (refused_line (n - suc k) s' m'' (refused r s') m'' step e)

      by_end : {p : Ended} {m'' : List ℕ} → Ends n idle s image p m'' → checked_trace image (line_text s ++ trace States n s image) copy ≡ (checked_of not_refused 0, m'')
      by_end (all_made_lem {s'} {m' = m''} led) =
          let count : n ≡ n + 0 = omega arith in
          of_lines n s' m'' led
          (on_full_lem States n s image full ∙ ap (λ (j : ℕ). full_trace States j s image) count ∙ made_lines n 0 s image s' m'' led (no_lines s' m''))
      by_end (no_cycle_room_lem {k} {s'} {m' = m''} l led r) = of_lines k s' m'' led (stopped k s' m'' NoCycleRoom l led (step_late idle s' m'' r) refl)
      by_end (not_an_opcode_lem {k} {s'} {m' = m''} l led r) =
          of_lines k s' m'' led (stopped k s' m'' NotAnOpcode l led (step_undefined idle s' m'' r.0 r.1 r.2) refl)

-- ---- in parts

module _ (view : View) (a b k : ℕ) (s : Machine) (m : List ℕ) (q : Ended) (m' : List ℕ) where
  after_step : (t : Bool) (v : Stepped) (e : List ℕ) → is_made v.reason ≡ t
      → Gives (cond t (run_full a (k + 1) idle v.machine) (done (ended v.reason k v.machine))) e q m'
      → q.reason ≡ Made
      → (Gives (run_full a (k + 1) idle v.machine) e q m' → full_trace view (a + b) v.machine e ≡ full_trace view a v.machine e ++ full_trace view b q.machine m')
      → shown view m s v ++ cond t (full_trace view (a + b) v.machine e) []
      ≡ (shown view m s v ++ cond t (full_trace view a v.machine e) []) ++ full_trace view b q.machine m'
  after_step true v e f g h rest = ap (λ (l : List ℕ). shown view m s v ++ l) (rest g) ∙ sym (append_assoc (shown view m s v) _ _)
  after_step false v e f g h rest = absurd (was_refused v.reason f (ap (λ (w : Ended × List ℕ). w.0.reason) g ∙ h))

-- Where all of the first a steps are made, the lines of a + b steps are those of the a, and then those of b more from what they leave: a trace in
-- parts is the whole trace.
pub in_parts : (view : View) (a b k : ℕ) (s : Machine) (m : List ℕ) {q : Ended} {m' : List ℕ} → Gives (run_full a k idle s) m q m' → q.reason ≡ Made
    → full_trace view (a + b) s m ≡ full_trace view a s m ++ full_trace view b q.machine m'
unfolding run_full run_while full_trace
in_parts view zero b k s m g h = rw zero-add (ap (λ (w : Ended × List ℕ). full_trace view b w.0.machine w.1) g)
in_parts view (suc a) b k s m {q} {m'} g h =
    let w = exec (step_full idle s) m in
    rw suc-add
    (after_step view a b k s m q m' (is_made w.0.reason) w.0 w.1 refl (sym (exec_bind (step_full idle s) _ m) ∙ g) h (λ r. in_parts view a b (k + 1) w.0.machine w.1 r h))
