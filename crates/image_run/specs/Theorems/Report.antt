-- What the definition of the report gives.
use Rattle.std.specs.Prelude.{ℕ, ◌*◌, ◌<◌, ◌≤◌, ◌≡◌, Bool, true, false, List, [], ◌∷◌, ◌⊎◌, eqb, length, get_or}
use Rattle.std.proofs.Math.Path.{refl}
use Rattle.std.proofs.Common.{sym, ◌∙◌, inl, inr, arith, eqb-true}
use Rattle.std.proofs.lemmas.Bool.{eqb-false}
use Rattle.registers.specs.State.{set_a, set_pc, set_status, set_nz, flags}
use Rattle.registers.specs.StatusByte.{status_byte}
use Rattle.instruction.specs.Opcodes.{rows, decoded}
use Rattle.manual.specs.declared.Machine.{Machine}
use Rattle.manual.specs.declared.Ended.{Ended}
use Rattle.manual.specs.declared.Reason.TheVariants.{Made, NotAnOpcode}
use Rattle.manual.specs.Micro.{exec, Gives}
use Rattle.manual.specs.Words.{joined}
use Rattle.manual.specs.Flags.{shown}
use Rattle.manual.specs.Addressing.{target}
use Rattle.manual.specs.Interrupts.{idle}
use Rattle.manual.specs.Instructions.{applied, perform}
use Rattle.manual.specs.Stepping.{run_while, act, attend, step_full, run_full, run, long_run, full_memory}
use Rattle.manual.specs.Inner.Laying.{memory}
use Rattle.registers.specs.InRange.{InRange}
use Rattle.manual.specs.Theorems.Within.{Bytes}
use Rattle.manual.proofs.Theorems.Ranges.{run_ranges}
use Rattle.manual.proofs.Lemmas.StepLaws.{run_whole, long_whole}
use Rattle.manual.proofs.Theorems.Answers.{NoOpcode}
use Rattle.manual.proofs.Theorems.RunAnswers.{Leads, Ends, all_made_lem, no_cycle_room_lem, not_an_opcode_lem, run_all, run_ends}
use Rattle.laws.specs.Characters.{characters}
use Rattle.text_writing.specs.Numerals.{digit, digits, decimal}
use Rattle.trace_fields.specs.Fields.{machine_fields}
use Rattle.sentences.specs.Line.{all_fields, line}
use Rattle.image_run.specs.Report.{start, from_start, image_run, long_image_run, report_line}
use Rattle.image_run.specs.Lemmas.Report.{image_refused, image_run_lem}

-- The rules' example: LDA #05, and then a byte that is no opcode.
pub example_line : report_line (memory ((0xFFFD, 0x02 ∷ []) ∷ (0x0200, 0xA9 ∷ 0x05 ∷ 0x02 ∷ []) ∷ [])) ≡ characters "3 1 2 0202 05 00 00 FF 34\n"
unfolding start from_start machine_fields all_fields line digit digits decimal status_byte rows decoded set_a set_pc set_status set_nz flags shown target applied perform act attend step_full run_full run_while run
example_line = refl

-- An image of another length gets the line `1`.
pub other_length : (image : List ℕ) → (length image ≡ full_memory → ⊥) → report_line image ≡ characters "1\n"
unfolding line
other_length image h = rw (image_refused (run (length image) 1000 idle) (length image) image h)

module _ (image : List ℕ) (full : length image ≡ full_memory) (bytes : Bytes image) where
  abbrev first : Machine
  first = start (joined (get_or image 0xFFFD 0) (get_or image 0xFFFC 0))

  first_in_range : InRange first.registers
  unfolding start
  first_in_range = record {
    accumulator = omega arith;
    x = omega arith;
    y = omega arith;
    stack = omega arith;
    counter = omega (arith, bytes 0xFFFD, bytes 0xFFFC);
  }

  none_yet : first.cycles ≡ 0
  unfolding start
  none_yet = refl

  -- k steps take at most 7 k cycles
  soon : (k : ℕ) (s : Machine) (m : List ℕ) → k < 1000 → Leads k idle first image s m → s.cycles ≤ 7 * k
  soon k s m l led =
      let kept = (run_ranges (length image) k idle first image first_in_range bytes).0.1 in
      let kept' = rw (run_whole (length image) k idle first full (omega arith), run_all k idle first image s m led) at kept in
      omega (arith, kept', none_yet)

  -- 0 with all 1,000 steps, or 3 with fewer and a byte at the counter that is no opcode
  abbrev pub ReasonAndCount : Ended → List ℕ → Type 0
  ReasonAndCount q m = ((q.reason ≡ Made) × (q.steps ≡ 1000)) ⊎ ((q.reason ≡ NotAnOpcode) × (q.steps < 1000) × NoOpcode idle q.machine m)

  reason : {q : Ended} {m : List ℕ} → Ends 1000 idle first image q m → ReasonAndCount q m
  reason (all_made_lem led) = inl (refl, refl)
  reason (no_cycle_room_lem {k} {s'} {m'} l led late) = absurd (omega (arith, soon k s' m' l led, late))
  reason (not_an_opcode_lem l led none) = inr (refl, l, none)

  -- A full image ends so, and not otherwise: for 2 it starts too low, for 4 the bound is allowed.
  pub reasons : {q : Ended} {m : List ℕ} → Gives (image_run (length image)) image q m → ReasonAndCount q m
  reasons g =
      reason (run_ends 1000 idle first image (rw (image_run_lem (run (length image) 1000 idle) (length image) image full, run_whole (length image) 1000 idle first full (omega arith)) at g))

-- A run of 1,000 steps by `go` is the report's.
pub same_run : (image : List ℕ) → exec (long_image_run 1000 (length image)) image ≡ exec (image_run (length image)) image
same_run image = by_length (eqb (length image) full_memory) refl
  where
    by_length : (t : Bool) → eqb (length image) full_memory ≡ t → exec (long_image_run 1000 (length image)) image ≡ exec (image_run (length image)) image
    by_length true e =
        let full = eqb-true (length image) full_memory e in
        image_run_lem (long_run (length image) 1000 idle) (length image) image full
        ∙ rw (long_whole (length image) 1000 idle _ full, ← run_whole (length image) 1000 idle _ full (omega arith)) (sym (image_run_lem (run (length image) 1000 idle) (length image) image full))
    by_length false e =
        let other = eqb-false (length image) full_memory e in
        image_refused (long_run (length image) 1000 idle) (length image) image other ∙ sym (image_refused (run (length image) 1000 idle) (length image) image other)
