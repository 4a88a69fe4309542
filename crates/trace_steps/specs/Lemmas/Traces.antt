-- Laws of what is shown of a run, for the proofs of the code.
use Rattle.std.specs.Prelude.{ℕ, suc, ◌+◌, ◌-◌, ◌≤◌, ◌<◌, ◌≡◌, refl, true, false, List, [], ◌++◌, length, take}
use Rattle.std.proofs.Common.{ap, sym, ◌∙◌, arith, eq-eqb, ne_eqb}
use Rattle.manual.specs.declared.Machine.{Machine}
use Rattle.manual.specs.declared.Stepped.{Stepped}
use Rattle.manual.specs.declared.Reason.TheVariants.{Made}
use Rattle.manual.specs.Micro.{exec, Gives}
use Rattle.manual.specs.Outcomes.{is_made, ended}
use Rattle.manual.specs.Interrupts.{idle}
use Rattle.manual.specs.Stepping.{run_while, full_memory, step_full, run_full}
use Rattle.manual.specs.Lemmas.Programs.{exec_then}
use Rattle.manual.proofs.Lemmas.StepLaws.{step_late, step_serves, step_undefined, step_defined}
use Rattle.manual.proofs.Theorems.Answers.{Way, late, serves, undefined, ready, way}
use Rattle.std.proofs.Math.Seq.{length-sets}
use Rattle.text_writing.specs.Written.{Writes}
use Rattle.text_writing.specs.declared.Writer.{Writer}
use Rattle.text_writing.specs.Lemmas.Texts.{read_back}
use Rattle.listing.specs.Lines.{instruction_at, longest_instruction}
use Rattle.listing.specs.Lemmas.Lengths.{instruction_length}
use Rattle.trace_text.specs.declared.View.{View}
use Rattle.trace_text.specs.Entries.{entry_text}
use Rattle.trace_steps.specs.Traces.{shown, full_trace, trace}

-- ---- a step

-- the cycle count never goes back
by_way : (s : Machine) (m : List ℕ) (q : Stepped) (m' : List ℕ) → Gives (step_full idle s) m q m' → Way idle s m → s.cycles ≤ q.machine.cycles
by_way s m q m' g (late h) = omega (arith, ap (λ (w : Stepped × List ℕ). w.0.machine.cycles) (sym g ∙ step_late idle s m h))
by_way s m q m' g (serves h) = omega (arith, ap (λ (w : Stepped × List ℕ). w.0.machine.cycles) (sym g ∙ step_serves idle s m h.1.0 h.0 h.1.1 refl))
by_way s m q m' g (undefined h) = omega (arith, ap (λ (w : Stepped × List ℕ). w.0.machine.cycles) (sym g ∙ step_undefined idle s m h.0 h.1 h.2))
by_way s m q m' g (ready h) = omega (arith, ap (λ (w : Stepped × List ℕ). w.0.machine.cycles) (sym g ∙ step_defined idle s m h.2.0 h.0 h.1 h.2.1 refl))

pub not_back : (s : Machine) (m : List ℕ) {q : Stepped} {m' : List ℕ} → Gives (step_full idle s) m q m' → s.cycles ≤ q.machine.cycles
not_back s m {q} {m'} g = by_way s m q m' g (way idle s m)

-- the entry of a step, by whether it was made
pub shown_made : (view : View) (m : List ℕ) (s : Machine) (q : Stepped) → is_made q.reason ≡ true
    → shown view m s q ≡ entry_text view (instruction_at m s.registers.counter) (q.machine.cycles - s.cycles) q.first q.machine
shown_made view m s q h = rw h

pub shown_refused : (view : View) (m : List ℕ) (s : Machine) (q : Stepped) → is_made q.reason ≡ false → shown view m s q ≡ []
shown_refused view m s q h = rw h

-- and where the instruction was written down first
pub shown_as : (view : View) (m : List ℕ) (s : Machine) (q : Stepped) {i : List ℕ} {w v : Writer}
    → Writes w (entry_text view i (q.machine.cycles - s.cycles) q.first q.machine) v → is_made q.reason ≡ true
    → i ≡ instruction_at m s.registers.counter
    → Writes w (shown view m s q) v
shown_as view m s q wrote made same = rw (shown_made view m s q made) (rw same at wrote)

-- the instruction in a buffer of its own
module _ (m : List ℕ) (at : ℕ) {w v : Writer} {size : ℕ} {b : List ℕ} (room : length w.out.now ≡ longest_instruction) (begins : w.at ≡ 0)
    (wrote : Writes w (instruction_at m at) v) (place : size ≡ v.at) (same : b ≡ v.out.now) where
  back : (v.at ≡ length (instruction_at m at)) × (take v.at v.out.now ≡ instruction_at m at)
  back = read_back (rw begins at wrote.wrote) (omega (arith, room, instruction_length m at))

  pub in_buffer : take size b ≡ instruction_at m at
  in_buffer = rw (same, place) back.1

  pub inside_buffer : size ≤ length b
  inside_buffer =
      omega (arith, back.0, place, instruction_length m at, ap length same, ap length wrote.wrote.bytes, length-sets w.out.now w.at (instruction_at m at), room)

-- ---- a run, before step k of a bound

module _ (s : Machine) (m : List ℕ) (q : Stepped) (m' : List ℕ) (g : Gives (step_full idle s) m q m') (bound k : ℕ) (l : k < bound) where
  one_more : bound - k ≡ suc (bound - (k + 1))
  one_more = omega arith

  pub run_next : is_made q.reason ≡ true → exec (run_full (bound - k) k idle s) m ≡ exec (run_full (bound - (k + 1)) (k + 1) idle q.machine) m'
  unfolding run_full run_while
  run_next h = rw one_more (exec_then (step_full idle s) _ m g ∙ rw h)

  pub run_refused : is_made q.reason ≡ false → Gives (run_full (bound - k) k idle s) m (ended q.reason k q.machine) m'
  unfolding run_full run_while
  run_refused h = rw one_more (exec_then (step_full idle s) _ m g ∙ rw h)

  pub next_entry : (view : View) → is_made q.reason ≡ true
      → full_trace view (bound - k) s m ≡ shown view m s q ++ full_trace view (bound - (k + 1)) q.machine m'
  unfolding full_trace
  next_entry view h = rw (one_more, g, h)

  pub no_entry : (view : View) → is_made q.reason ≡ false → full_trace view (bound - k) s m ≡ shown view m s q ++ []
  unfolding full_trace
  no_entry view h = rw (one_more, g, h)

pub no_steps : (view : View) (s : Machine) (m : List ℕ) (bound k : ℕ) → bound ≤ k → full_trace view (bound - k) s m ≡ []
unfolding full_trace
no_steps view s m bound k h =
    let none : bound - k ≡ 0 = omega arith in
    rw none

pub no_more_steps : (s : Machine) (m : List ℕ) (bound k : ℕ) → bound ≤ k → Gives (run_full (bound - k) k idle s) m (ended Made k s) m
unfolding run_full run_while
no_more_steps s m bound k h =
    let none : bound - k ≡ 0 = omega arith in
    rw none

-- ---- by the length of the memory

pub on_full_lem : (view : View) (n : ℕ) (s : Machine) (m : List ℕ) → length m ≡ full_memory → trace view n s m ≡ full_trace view n s m
unfolding trace
on_full_lem view n s m f = rw (eq-eqb (length m) full_memory f)

pub not_on_full : (view : View) (n : ℕ) (s : Machine) (m : List ℕ) → (length m ≡ full_memory → ⊥) → trace view n s m ≡ []
unfolding trace
not_on_full view n s m f = rw (ne_eqb (length m) full_memory f)
