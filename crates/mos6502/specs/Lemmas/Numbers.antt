-- A step and a run on numbers: what a turn and a run give on a full memory, and what the tests before them refuse.
use Rattle.std.specs.Prelude.{ℕ, zero, suc, ◌+◌, ◌≤◌, ◌<◌, Bool, true, false, cond, ◌≡◌}
use Rattle.std.proofs.Math.Path.{refl, ap, sym}
use Rattle.std.proofs.Common.{◌∙◌, arith, lt-ltb, le-ltb}
use mathlib.Core.List.{List, []}
use Rattle.std.proofs.Math.Dec.{ltb}
use Rattle.mos6502_numbers.specs.Packed.{packed}
use Rattle.manual.specs.declared.Lines.{Lines}
use Rattle.manual.specs.declared.Machine.{Machine}
use Rattle.manual.specs.declared.Ended.{Ended}
use Rattle.manual.specs.declared.Reason.{Reason}
use Rattle.manual.specs.declared.Reason.TheVariants.{Made, MemoryNotFull, NoCycleRoom, NotAnOpcode, BoundTooHigh}
use Rattle.manual.specs.Micro.{exec, Gives}
use Rattle.manual.specs.Outcomes.{number, is_made, stepped}
use Rattle.manual.specs.Interrupts.{due}
use Rattle.manual.specs.Stepping.{full_memory, highest_bound, step, run_full, run, long_run, spend_full, run_cycles}
use Rattle.manual.specs.Lemmas.Programs.{then, exec_bind}
use Rattle.manual.proofs.Lemmas.StepLaws.{step_short, step_whole, run_short, run_long, run_whole, long_short, long_whole}
use Rattle.manual.proofs.Theorems.RunAnswers.{Ends, all_made_lem, no_cycle_room_lem, not_an_opcode_lem, run_ends}
use Rattle.manual.proofs.Theorems.Spending.{cycles_short, cycles_long, cycles_whole}
use Rattle.cpu.specs.declared.Travelled.{Travelled}
use Rattle.cpu.specs.Inner.Travelling.{travelled, travelling}
use Rattle.cpu.specs.Lemmas.Travelling.{travel_run}
use Rattle.cpu.specs.Inner.Turning.{turning, settled}
use Rattle.cpu.specs.Lemmas.Turning.{turned, one_step_lem, turn_step}
use Rattle.mos6502_numbers.specs.Machines.{machine_from, lines_from, registers_after, cycles_after}
use Rattle.mos6502.specs.Numbers.{StepNumbers, RunNumbers, run_numbers, step_on_numbers, run_on_numbers, long_run_on_numbers, run_cycles_on_numbers}
use Rattle.mos6502.specs.Inner.Turns.{run_full_on_numbers, turn_on_numbers}

-- a run of one has made a step exactly if it answers so
one_made : {lines : Lines} {s : Machine} {m : List ℕ} {q : Ended} {m' : List ℕ} → Ends 1 lines s m q m' → is_made q.reason ≡ ltb 0 q.steps
one_made (all_made_lem h) = refl
one_made (no_cycle_room_lem {k} l h r) = sym (le-ltb 0 k (omega arith))
one_made (not_an_opcode_lem {k} l h r) = sym (le-ltb 0 k (omega arith))

-- 0 is the answer of a run that made its steps
pub zero_made : (r : Reason) → number r ≡ 0 → is_made r ≡ true
zero_made Made e = refl
zero_made MemoryNotFull e = absurd (omega arith)
zero_made NoCycleRoom e = absurd (omega arith)
zero_made NotAnOpcode e = absurd (omega arith)
zero_made BoundTooHigh e = absurd (omega arith)

pub other_refused : (r : Reason) → (number r ≡ 0 → ⊥) → is_made r ≡ false
other_refused Made f = absurd (f refl)
other_refused MemoryNotFull f = refl
other_refused NoCycleRoom f = refl
other_refused NotAnOpcode f = refl
other_refused BoundTooHigh f = refl

-- the two numbers of a machine
abbrev pub number_of : Machine → ℕ
number_of s = packed s.registers s.nmi

abbrev pub count_of : Machine → ℕ
count_of s = s.cycles

-- if no step was made the machine does not matter
picked : (f : Machine → ℕ) (t : Bool) (w s : Machine) (v : ℕ) → cond t (f (cond t w s)) v ≡ cond t (f w) v
picked f true w s v = refl
picked f false w s v = refl

-- A number of the machine, which stays as it was given until a step is made: after more steps it is that of the machine then.
pub onward : (f : Machine → ℕ) (total k v₀ v : ℕ) (w s : Machine) → v ≡ cond (ltb 0 total) (f s) v₀
    → cond (ltb 0 k) (f w) v ≡ cond (ltb 0 (total + k)) (f (cond (ltb 0 k) w s)) v₀
onward f total zero v₀ v w s e = let same : total + 0 ≡ total = omega arith in rw same e
onward f total (suc k) v₀ v w s e = rw (lt-ltb 0 (suc k) (omega arith), lt-ltb 0 (total + suc k) (omega arith))

module _ (lines registers cycles : ℕ) (m : List ℕ) where
  abbrev present : Lines
  present = lines_from lines

  abbrev start : Machine
  start = machine_from registers cycles

  -- ---- on a full memory

  pub turn_gives : (bound : ℕ) {w : Travelled} {m' : List ℕ} → Gives (turning bound present start) m w m'
      → Gives (turn_on_numbers bound lines registers cycles) m (run_numbers registers cycles w.ended) m'
  unfolding turn_on_numbers
  turn_gives bound g = then (turning bound present start) _ m g refl

  -- the turn's own answer is behind the numbers that come back
  pub turn_of : (bound : ℕ) {v : RunNumbers} {m' : List ℕ} → Gives (turn_on_numbers bound lines registers cycles) m v m'
      → ◌≡◌ {A = RunNumbers × List ℕ} (run_numbers registers cycles (exec (turning bound present start) m).0.ended, (exec (turning bound present start) m).1) (v, m')
  unfolding turn_on_numbers
  turn_of bound g = sym (exec_bind (turning bound present start) _ m) ∙ g

  pub run_gives : (bound : ℕ) {q : Ended} {m' : List ℕ} → Gives (run_full bound 0 present start) m q m'
      → Gives (run_full_on_numbers bound lines registers cycles) m (run_numbers registers cycles q) m'
  unfolding run_full_on_numbers
  run_gives bound g = then (run_full bound 0 present start) _ m g refl

  pub run_of : (bound : ℕ) {v : RunNumbers} {m' : List ℕ} → Gives (run_full_on_numbers bound lines registers cycles) m v m'
      → ◌≡◌ {A = RunNumbers × List ℕ} (run_numbers registers cycles (exec (run_full bound 0 present start) m).0, (exec (run_full bound 0 present start) m).1) (v, m')
  unfolding run_full_on_numbers
  run_of bound g = sym (exec_bind (run_full bound 0 present start) _ m) ∙ g

  pub run_on_full : (size bound : ℕ) {v : RunNumbers} {m' : List ℕ} → size ≡ full_memory → bound ≤ highest_bound
      → Gives (run_full_on_numbers bound lines registers cycles) m v m' → Gives (run_on_numbers size bound lines registers cycles) m v m'
  unfolding run_on_numbers run_full_on_numbers
  run_on_full size bound f h g = rw (run_whole size bound present start f h) g

  pub long_run_on_full : (size bound : ℕ) {v : RunNumbers} {m' : List ℕ} → size ≡ full_memory
      → Gives (run_full_on_numbers bound lines registers cycles) m v m' → Gives (long_run_on_numbers size bound lines registers cycles) m v m'
  unfolding long_run_on_numbers run_full_on_numbers
  long_run_on_full size bound f g = rw (long_whole size bound present start f) g

  pub spend_gives : (size limit : ℕ) {q : Ended} {m' : List ℕ} → size ≡ full_memory → limit ≤ highest_bound
      → Gives (spend_full limit (cycles + limit) 0 present start) m q m'
      → Gives (run_cycles_on_numbers size limit lines registers cycles) m (run_numbers registers cycles q) m'
  unfolding run_cycles_on_numbers
  spend_gives size limit f h g =
      rw (cycles_whole size limit present start [] f h) (then (spend_full limit (cycles + limit) 0 present start) _ m g refl)

  -- what a turn of one leaves
  abbrev pub one_step : Travelled → StepNumbers
  one_step w = record {
    answer = number w.ended.reason;
    first = w.first;
    registers = registers_after (ltb 0 w.ended.steps) w.ended.machine registers;
    cycles = cycles_after (ltb 0 w.ended.steps) w.ended.machine cycles;
  }

  step_of : Travelled × List ℕ → StepNumbers × List ℕ
  step_of w = (one_step w.0, w.1)

  pub step_on_full : (size : ℕ) {w : Travelled} {m' : List ℕ} → size ≡ full_memory → Gives (turning 1 present start) m w m'
      → Gives (step_on_numbers size lines registers cycles) m (one_step w) m'
  unfolding step_on_numbers step_of
  step_on_full size f g =
      let w = exec (turning 1 present start) m in
      let t = ltb 0 w.0.ended.steps in
      let full : Gives (travelling 1 0 0 present start) m (travelled w.0.first (settled start w.0.ended)) w.1 =
      rw (one_step_lem (due present start)) at (turned 1 present start m {r = w.0} {m' = w.1} refl) in
      let made = one_made (run_ends 1 present start m (travel_run 1 0 0 present start m full)) in
      let one : Gives (step size present start) m (stepped w.0.ended.reason w.0.first (settled start w.0.ended).machine) w.1 =
      rw (step_whole size present start f) (turn_step present start m {r = w.0} {m' = w.1} refl) in
      then (step size present start) _ m one refl
      ∙ ap (λ (b : Bool). (record { answer = number w.0.ended.reason; first = w.0.first; registers = registers_after b (settled start w.0.ended).machine registers; cycles = cycles_after b (settled start w.0.ended).machine cycles }, w.1)) made
      ∙ ap (λ (k : ℕ). (record { answer = number w.0.ended.reason; first = w.0.first; registers = k; cycles = cycles_after t (settled start w.0.ended).machine cycles }, w.1)) (picked number_of t w.0.ended.machine start registers)
      ∙ ap (λ (k : ℕ). (record { answer = number w.0.ended.reason; first = w.0.first; registers = registers_after t w.0.ended.machine registers; cycles = k }, w.1)) (picked count_of t w.0.ended.machine start cycles)
      ∙ ap step_of g

  -- ---- refused before it

  pub run_short_memory : (size bound : ℕ) → (size ≡ full_memory → ⊥)
      → Gives (run_on_numbers size bound lines registers cycles) m (record { answer = 1; steps = 0; registers = registers; cycles = cycles }) m
  unfolding run_on_numbers
  run_short_memory size bound f = then (run size bound present start) _ m (run_short size bound present start m f) refl

  pub run_long_bound : (size bound : ℕ) → size ≡ full_memory → highest_bound < bound
      → Gives (run_on_numbers size bound lines registers cycles) m (record { answer = 4; steps = 0; registers = registers; cycles = cycles }) m
  unfolding run_on_numbers
  run_long_bound size bound f h = then (run size bound present start) _ m (run_long size bound present start m f h) refl

  pub long_run_short_memory : (size bound : ℕ) → (size ≡ full_memory → ⊥)
      → Gives (long_run_on_numbers size bound lines registers cycles) m (record { answer = 1; steps = 0; registers = registers; cycles = cycles }) m
  unfolding long_run_on_numbers
  long_run_short_memory size bound f = then (long_run size bound present start) _ m (long_short size bound present start m f) refl

  pub cycles_short_memory : (size limit : ℕ) → (size ≡ full_memory → ⊥)
      → Gives (run_cycles_on_numbers size limit lines registers cycles) m (record { answer = 1; steps = 0; registers = registers; cycles = cycles }) m
  unfolding run_cycles_on_numbers
  cycles_short_memory size limit f = then (run_cycles size limit present start) _ m (cycles_short size limit present start m f) refl

  pub cycles_long_limit : (size limit : ℕ) → size ≡ full_memory → highest_bound < limit
      → Gives (run_cycles_on_numbers size limit lines registers cycles) m (record { answer = 4; steps = 0; registers = registers; cycles = cycles }) m
  unfolding run_cycles_on_numbers
  cycles_long_limit size limit f h = then (run_cycles size limit present start) _ m (cycles_long size limit present start m f h) refl

  pub step_short_memory : (size : ℕ) → (size ≡ full_memory → ⊥)
      → Gives (step_on_numbers size lines registers cycles) m (record { answer = 1; first = 0; registers = registers; cycles = cycles }) m
  unfolding step_on_numbers
  step_short_memory size f = then (step size present start) _ m (step_short size present start m f) refl
