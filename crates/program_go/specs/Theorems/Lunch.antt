-- Lunch by files (P12): the file that a halted run of k steps leaves, opened and run for n more, gives the run of k + n steps.
use Rattle.std.specs.Prelude.{ℕ, zero, suc, ◌+◌, ◌≤◌, ◌<◌, ◌≡◌, refl, Bool, true, false, cond, List, [], ◌∷◌, eqb, length, take, get_or, Option, Some, None}
use Rattle.std.proofs.Math.Path.{ap, sym}
use Rattle.std.proofs.Common.{◌∙◌, arith}
use Rattle.std.proofs.Math.Decide.{ℕ_discrete}
use Rattle.manual.specs.declared.Machine.{Machine}
use Rattle.manual.specs.declared.Ended.{Ended}
use Rattle.manual.specs.declared.Reason.TheVariants.{Made, MemoryNotFull}
use Rattle.manual.specs.Micro.{exec, Gives}
use Rattle.manual.specs.Words.{joined}
use Rattle.manual.specs.Interrupts.{idle}
use Rattle.manual.specs.Stepping.{full_memory, long_run}
use Rattle.manual.specs.Lemmas.Programs.{exec_length}
use Rattle.manual.proofs.Lemmas.StepLaws.{long_short, long_whole}
use Rattle.manual.specs.Theorems.Within.{Bytes}
use Rattle.manual.proofs.Theorems.RunAnswers.{Ends, all_made_lem, no_cycle_room_lem, not_an_opcode_lem, run_ends}
use Rattle.manual.proofs.Theorems.Lunch.{added}
use Rattle.text_reading.specs.Numbers.{nowhere}
use Rattle.trace_line.specs.Lines.{Spellable}
use Rattle.trace_checking.specs.Theorems.Honest.{led_spellable}
use Rattle.image_run.specs.Report.{start, image_start}
use Rattle.image_run.specs.Lemmas.Report.{started}
use Rattle.manual_parts.specs.Lemmas.Parts.{long_lunch}
use Rattle.image_halted.specs.Halted.{halted_run, start_of, memory_by, memory_of}
use Rattle.image_halted.specs.Theorems.Opening.{opens_again, only_halted}
use Rattle.program_go.specs.Runs.{run_from, file_run}

-- the machine with which a run begins
abbrev first_machine : Option Machine → List ℕ → Machine
first_machine None m = image_start m
first_machine (Some s) m = s

-- so each is a long run
pub from_machine : (t : Option Machine) (steps : ℕ) (m : List ℕ) → exec (run_from t steps (length m)) m ≡ exec (long_run (length m) steps idle (first_machine t m)) m
from_machine None steps m = started (long_run (length m) steps idle) m (λ s other. long_short (length m) steps idle s m other)
from_machine (Some s) steps m = refl

-- ---- the first machine can be written as a line

bytes_take : (n : ℕ) (m : List ℕ) → Bytes m → Bytes (take n m)
bytes_take zero m h a = omega arith
bytes_take (suc n) [] h a = h a
bytes_take (suc n) (x ∷ m) h zero = h 0
bytes_take (suc n) (x ∷ m) h (suc a) = bytes_take n m (λ i. h (suc i)) a

start_spellable : (counter : ℕ) → counter < 65536 → Spellable (start counter)
unfolding start
start_spellable counter h = record {
  registers = record { accumulator = omega arith; x = omega arith; y = omega arith; stack = omega arith; counter = h };
  cycles = omega arith;
  nmi = refl;
}

image_spellable : (m : List ℕ) → Bytes m → (t : Bool) → Spellable (cond t (start (joined (get_or m 0xFFFD 0) (get_or m 0xFFFC 0))) (start 0))
image_spellable m b true = start_spellable _ (omega (arith, b 0xFFFD, b 0xFFFC))
image_spellable m b false = start_spellable 0 (omega arith)

module _ (file : List ℕ) (fits : length file ≤ nowhere) (bytes : Bytes file) where
  bytes_by : (t : Option Machine) → Bytes (memory_by t file)
  bytes_by None = bytes
  bytes_by (Some s) = bytes_take full_memory file bytes

  memory_bytes : Bytes (memory_of file)
  unfolding memory_of
  memory_bytes = bytes_by (start_of file)

  first_by : (t : Option Machine) → start_of file ≡ t → Spellable (first_machine t (memory_of file))
  unfolding image_start
  first_by None e = image_spellable (memory_of file) memory_bytes (eqb (length (memory_of file)) full_memory)
  first_by (Some s) e = (only_halted file fits s e).spellable

  -- ---- a run that made all its steps

  module _ (k n : ℕ) {q : Ended} {m' : List ℕ} (g : file_run k file ≡ (q, m')) (made : q.reason ≡ Made) where
    abbrev m : List ℕ
    m = memory_of file

    abbrev s : Machine
    s = first_machine (start_of file) m

    runs : Gives (long_run (length m) k idle s) m q m'
    unfolding file_run
    runs = sym (from_machine (start_of file) k m) ∙ g

    whole_by : Dec (length m ≡ full_memory) → length m ≡ full_memory
    whole_by (yes e) = e
    whole_by (no f) =
        let other : MemoryNotFull ≡ Made = ap (λ (w : Ended × List ℕ). w.0.reason) (sym (long_short (length m) k idle s m f) ∙ runs) ∙ made in
        let z : ◌≡◌ {A = ℕ} 0 1 = cc in absurd (omega arith)

    whole : length m ≡ full_memory
    whole = whole_by (ℕ_discrete (length m) full_memory)

    still_whole : length m' ≡ length m
    still_whole = ap (λ (w : Ended × List ℕ). length w.1) (sym runs) ∙ exec_length (long_run (length m) k idle s) m

    spellable_by : {p : Ended} {m'' : List ℕ} → Ends k idle s m p m'' → p.reason ≡ Made → Spellable p.machine
    spellable_by (all_made_lem {s'} {m' = m''} led) e = (led_spellable k s m s' m'' whole (first_by (start_of file) refl) memory_bytes led).0
    spellable_by (no_cycle_room_lem l led r) e = let z : ◌≡◌ {A = ℕ} 0 1 = cc in absurd (omega arith)
    spellable_by (not_an_opcode_lem l led r) e = let z : ◌≡◌ {A = ℕ} 0 1 = cc in absurd (omega arith)

    -- It leaves a state that a line spells.
    pub leaves_spellable : Spellable q.machine
    leaves_spellable = spellable_by (run_ends k idle s m (rw (long_whole (length m) k idle s whole) at runs)) made

    goes_on_lem : exec (long_run (length m) n idle q.machine) m' ≡ file_run n (halted_run q.machine m')
    unfolding file_run
    goes_on_lem =
        let opened = opens_again q.machine m' (still_whole ∙ whole) leaves_spellable in
        ap (λ (j : ℕ). exec (long_run j n idle q.machine) m') (sym still_whole) ∙ rw (opened.0, opened.1)

    -- Whoever opens the file that such a run leaves and goes on has what the whole run gives: the same answer, registers, cycles and memory, and
    -- the steps add up.
    pub lunch_of_files : file_run (k + n) file ≡ added k (file_run n (halted_run q.machine m'))
    unfolding file_run
    lunch_of_files =
        from_machine (start_of file) (k + n) m ∙ long_lunch (length m) k s m runs n made ∙ ap (added k) goes_on_lem
