-- The guarded run and the extract on numbers.
use Rattle.std.specs.Prelude.{ℕ, Bool, List, ltb, length, Ok, Err}
use Rattle.manual.specs.declared.Machine.{Machine}
use Rattle.manual.specs.Outcomes.{number}
use Rattle.mos6502_numbers.specs.Machines.{machine_from, lines_from, registers_after, cycles_after}
use Rattle.guard_maps.specs.Maps.{touch_answer, touch_place}
use Rattle.guard.specs.Guarded.{Guarded, guarded}
use Rattle.guard.specs.Extract.{extract}

-- what comes back: the answer, the steps that were made, the guarded address before which it was halted, and the two numbers
pub record GuardNumbers : Type 0 where
  pub answer : ℕ
  pub steps : ℕ
  pub place : ℕ
  pub registers : ℕ
  pub cycles : ℕ

-- the two numbers are the machine's if a step was made
abbrev pub told : ℕ → ℕ → ℕ → ℕ → ℕ → Machine → GuardNumbers
told registers cycles answer place k s = record {
  answer = answer;
  steps = k;
  place = place;
  registers = registers_after (ltb 0 k) s registers;
  cycles = cycles_after (ltb 0 k) s cycles;
}

-- a run's own answer and no place; or 13 or 14, and the address
abbrev pub guard_numbers : ℕ → ℕ → Guarded → GuardNumbers
guard_numbers registers cycles (Ok q) = told registers cycles (number q.reason) 0 q.steps q.machine
guard_numbers registers cycles (Err h) = told registers cycles (touch_answer h.touch) (touch_place h.touch) h.steps h.machine

abbrev pub on_numbers : ℕ → ℕ → Guarded × List ℕ → GuardNumbers × List ℕ
on_numbers registers cycles w = (guard_numbers registers cycles w.0, w.1)

abbrev pub guarded_on_numbers : (ℕ → Bool) → (ℕ → Bool) → ℕ → ℕ → ℕ → ℕ → List ℕ → GuardNumbers × List ℕ
guarded_on_numbers reads stores bound lines registers cycles m =
    on_numbers registers cycles (guarded reads stores (length m) bound (lines_from lines) (machine_from registers cycles) m)

abbrev pub extract_on_numbers : (ℕ → Bool) → ℕ → ℕ → ℕ → ℕ → List ℕ → GuardNumbers × List ℕ
extract_on_numbers sealed bound lines registers cycles m =
    on_numbers registers cycles (extract sealed (length m) bound (lines_from lines) (machine_from registers cycles) m)
