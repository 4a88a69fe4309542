-- The theorem `correct`: all that Correct.antt says of the C functions holds.
use Rattle.std.specs.Prelude.{ℕ, ◌+◌, ◌≤◌, ◌≡◌, refl, false, ◌↔◌, List, ltb, length}
use Rattle.std.proofs.Common.{ap, sym, ◌∙◌, subst, arith, ltb-false}
use Rattle.manual.specs.declared.Lines.{Lines}
use Rattle.manual.specs.declared.Machine.{Machine}
use Rattle.manual.specs.declared.Stepped.{Stepped}
use Rattle.manual.specs.declared.Ended.{Ended}
use Rattle.manual.specs.Micro.{Micro, exec}
use Rattle.manual.specs.Outcomes.{number, is_made, refused}
use Rattle.manual.specs.Stepping.{full_memory, highest_bound, step, run, long_run, run_cycles}
use Rattle.manual.proofs.Lemmas.StepLaws.{not_made}
use Rattle.manual.specs.Theorems.OneResult.{one_result}
use Rattle.manual.proofs.Theorems.Answers.{NoRoom, NoOpcode, step_answers}
use Rattle.manual.proofs.Theorems.RunAnswers.{Leads, run_answers, long_run_answers}
use Rattle.manual.proofs.Theorems.Spending.{Before, run_cycles_answers, run_cycles_sealed, fewer_before}
use Rattle.manual.proofs.Theorems.Sealed.{Differ, Kept, step_sealed, run_sealed_lem, long_run_sealed}
use Rattle.manual.specs.Theorems.Within.{Bytes}
use Rattle.manual.proofs.Theorems.Ranges.{step_ranges, run_ranges, long_run_ranges, run_cycles_ranges}
use Rattle.registers.specs.InRange.{InRange}
use Rattle.mos6502_numbers.specs.Machines.{machine_from, lines_from}
use Rattle.mos6502.specs.Numbers.{StepNumbers, RunNumbers, step_numbers, run_numbers, step_on_numbers, run_on_numbers, long_run_on_numbers, run_cycles_on_numbers}
use Rattle.mos6502.specs.Lemmas.Behind.{Behind, behind, carried, number_refused, number_most, from_in_range, held, none_made, means, Told, run_told, long_run_told, cycles_told}
use Rattle.mos6502.specs.Theorems.Correct.{StepAnswered, left, RunAnswered, Answered, StepEquals, RunEquals, Equal, OneResult, Apart, Correct}
use Rattle.mos6502.specs.Calls.{StepCall, RunCall, LongRunCall, CyclesCall}

module _ (registers cycles lines : ℕ) (m : List ℕ) where
  abbrev s : Machine
  s = machine_from registers cycles

  abbrev l : Lines
  l = lines_from lines

  -- ---- a step

  module _ where
    abbrev p : Micro Stepped
    p = step (length m) l s

    abbrev q : Stepped
    q = (exec p m).0

    refused_so : (number q.reason ≡ 0 → ⊥) → exec p m ≡ (refused q.reason s, m)
    refused_so = (step_answers (length m) l s m).unchanged

    step_table : StepAnswered registers cycles lines m (step_numbers registers cycles q) (exec p m).1
    step_table =
        let table = step_answers (length m) l s m in
        record {
          zero = table.zero;
          one = table.one;
          two = table.two;
          three = table.three;
          no_other = omega (arith, number_most q.reason, table.four);
          unchanged = λ n.
              let g = refused_so n in
              let f = not_made q.reason (λ e. n (ap number e)) in
              (rw f, rw f, ap (λ (w : Stepped × List ℕ). w.0.first) g, ap (λ (w : Stepped × List ℕ). w.1) g);
        }

    step_same : Bytes m → StepEquals registers cycles lines m (exec p m) (step_numbers registers cycles q) (exec p m).1
    step_same bytes = record {
      answer = refl;
      machine =
          held (is_made q.reason) q.machine registers cycles (step_ranges (length m) l s m (from_in_range registers) bytes).0.0.registers
          (λ e. ap (λ (w : Stepped × List ℕ). w.0.machine) (refused_so (number_refused q.reason e)));
      first = refl;
      memory = refl;
    }

  -- ---- a run, by what its table says

  module _ (q : Ended) (m' : List ℕ) (range : InRange q.machine.registers) where
    abbrev v : RunNumbers
    v = run_numbers registers cycles q

    run_held : Leads q.steps l s m q.machine m' → left v ≡ q.machine
    run_held led =
        held (ltb 0 q.steps) q.machine registers cycles range
        (λ e. let none : q.steps ≡ 0 = omega (arith, ltb-false 0 q.steps e) in (none_made q.steps l s m q.machine m' led none).0)

    run_table : (allowed over : Type 0) → Told (length m ≡ full_memory) allowed over l s m q m' → RunAnswered registers cycles lines m allowed over v m'
    run_table allowed over told =
        let same = sym (run_held told.led) in
        let table = means (length m ≡ full_memory) allowed over l q m' told.came in
        record {
          zero = table.zero;
          one = table.one;
          two = subst (λ (t : Machine). (number q.reason ≡ 2) ↔ ((length m ≡ full_memory) × allowed × (over → ⊥) × NoRoom t)) same table.two;
          three = subst (λ (t : Machine). (number q.reason ≡ 3) ↔ ((length m ≡ full_memory) × allowed × (over → ⊥) × NoOpcode l t m')) same table.three;
          four = table.four;
          no_other = number_most q.reason;
          made = subst (λ (t : Machine). Leads q.steps l s m t m') same told.led;
          none = table.none;
          unchanged = λ e.
              let no : ltb 0 q.steps ≡ false = rw e in
              (rw no, rw no, (none_made q.steps l s m q.machine m' told.led e).1);
        }

    -- one by cycles is over by the count that comes back
    by_count : (allowed : Type 0) (limit : ℕ) → Told (length m ≡ full_memory) allowed (cycles + limit ≤ q.machine.cycles) l s m q m'
        → RunAnswered registers cycles lines m allowed (cycles + limit ≤ v.cycles) v m'
    by_count allowed limit told =
        let same : q.machine.cycles ≡ v.cycles = sym (ap (λ (t : Machine). t.cycles) (run_held told.led)) in
        run_table allowed (cycles + limit ≤ v.cycles)
        (subst (λ (c : ℕ). Told (length m ≡ full_memory) allowed (cycles + limit ≤ c) l s m q m') same told)

    run_same : Leads q.steps l s m q.machine m' → RunEquals registers cycles lines m (q, m') v m'
    run_same led = record { answer = refl; machine = run_held led; steps = refl; memory = refl }

  -- ---- the four functions

  -- the definition's answer behind each call
  module _ {m' : List ℕ} where
    step_behind : {v : StepNumbers} → StepCall registers cycles lines m v m' → Behind (step (length m) l s) (step_numbers registers cycles) m v m'
    unfolding step_on_numbers
    step_behind = behind (step (length m) l s) (step_numbers registers cycles) m

    run_behind : (bound : ℕ) {v : RunNumbers} → RunCall registers cycles bound lines m v m' → Behind (run (length m) bound l s) (run_numbers registers cycles) m v m'
    unfolding run_on_numbers
    run_behind bound = behind (run (length m) bound l s) (run_numbers registers cycles) m

    long_run_behind : (bound : ℕ) {v : RunNumbers} → LongRunCall registers cycles bound lines m v m'
        → Behind (long_run (length m) bound l s) (run_numbers registers cycles) m v m'
    unfolding long_run_on_numbers
    long_run_behind bound = behind (long_run (length m) bound l s) (run_numbers registers cycles) m

    cycles_behind : (limit : ℕ) {v : RunNumbers} → CyclesCall registers cycles limit lines m v m'
        → Behind (run_cycles (length m) limit l s) (run_numbers registers cycles) m v m'
    unfolding run_cycles_on_numbers
    cycles_behind limit = behind (run_cycles (length m) limit l s) (run_numbers registers cycles) m

  -- what the table says of each run of the definition
  module _ (bound : ℕ) where
    run_says : Told (length m ≡ full_memory) (bound ≤ highest_bound) ((exec (run (length m) bound l s) m).0.steps ≡ bound) l s m (exec (run (length m) bound l s) m).0 (exec (run (length m) bound l s) m).1
    run_says = run_told (length m) bound l s m ((run_answers (length m) bound l s m).0 refl)

    long_run_says : Told (length m ≡ full_memory) (Unit {0}) ((exec (long_run (length m) bound l s) m).0.steps ≡ bound) l s m (exec (long_run (length m) bound l s) m).0 (exec (long_run (length m) bound l s) m).1
    long_run_says = long_run_told (length m) bound l s m ((long_run_answers (length m) bound l s m).0 refl)

    cycles_say : Told (length m ≡ full_memory) (bound ≤ highest_bound) (cycles + bound ≤ (exec (run_cycles (length m) bound l s) m).0.machine.cycles) l s m (exec (run_cycles (length m) bound l s) m).0 (exec (run_cycles (length m) bound l s) m).1
    cycles_say = cycles_told (length m) bound l s m ((run_cycles_answers (length m) bound l s m).0 refl)

  module _ (bytes : Bytes m) where
    in_range : InRange s.registers
    in_range = from_in_range registers

    answered : Answered registers cycles lines m
    answered = record {
      step_answered = λ g. carried (StepAnswered registers cycles lines m) (step_behind g) step_table;
      run_answered = λ bound g.
          carried (λ v e. RunAnswered registers cycles lines m (bound ≤ highest_bound) (v.steps ≡ bound) v e) (run_behind bound g)
          (run_table _ _ (run_ranges (length m) bound l s m in_range bytes).0.0 _ _ (run_says bound));
      long_run_answered = λ bound g.
          carried (λ v e. RunAnswered registers cycles lines m (Unit {0}) (v.steps ≡ bound) v e) (long_run_behind bound g)
          (run_table _ _ (long_run_ranges (length m) bound l s m in_range bytes).0.0 _ _ (long_run_says bound));
      cycles_answered = λ limit g.
          carried (λ v e. RunAnswered registers cycles lines m (limit ≤ highest_bound) (cycles + limit ≤ v.cycles) v e × Before v.steps (cycles + limit) l s m) (cycles_behind limit g)
          (by_count _ _ (run_cycles_ranges (length m) limit l s m in_range bytes).0.0 _ limit (cycles_say limit), fewer_before (length m) limit l s m refl);
    }

    equal : Equal registers cycles lines m
    equal = record {
      step_equals = λ g. carried (StepEquals registers cycles lines m _) (step_behind g) (step_same bytes);
      run_equals = λ bound g.
          carried (RunEquals registers cycles lines m _) (run_behind bound g)
          (run_same _ _ (run_ranges (length m) bound l s m in_range bytes).0.0 (run_says bound).led);
      long_run_equals = λ bound g.
          carried (RunEquals registers cycles lines m _) (long_run_behind bound g)
          (run_same _ _ (long_run_ranges (length m) bound l s m in_range bytes).0.0 (long_run_says bound).led);
      cycles_equal = λ limit g.
          carried (RunEquals registers cycles lines m _) (cycles_behind limit g)
          (run_same _ _ (run_cycles_ranges (length m) limit l s m in_range bytes).0.0 (cycles_say limit).led);
    }

  only_one : OneResult registers cycles lines m
  only_one = record {
    step_one = one_result (step_on_numbers (length m) lines registers cycles) m;
    run_one = λ bound. one_result (run_on_numbers (length m) bound lines registers cycles) m;
    long_run_one = λ bound. one_result (long_run_on_numbers (length m) bound lines registers cycles) m;
    cycles_one = λ limit. one_result (run_cycles_on_numbers (length m) limit lines registers cycles) m;
  }

-- ---- two memories

-- what two executions share is shared by what comes back
shared : {A B : Type 0} (Sealed : ℕ → Type 0) (p₁ p₂ : Micro A) (f : A → B) (m₁ m₂ stored_to : List ℕ) {v₁ v₂ : B} {e₁ e₂ : List ℕ}
    → Behind p₁ f m₁ v₁ e₁ → Behind p₂ f m₂ v₂ e₂
    → ((exec p₁ m₁).0 ≡ (exec p₂ m₂).0) × Kept Sealed stored_to m₁ m₂ (exec p₁ m₁).1 (exec p₂ m₂).1
    → (v₁ ≡ v₂) × Kept Sealed stored_to m₁ m₂ e₁ e₂
shared Sealed p₁ p₂ f m₁ m₂ stored_to {e₂ = e₂} b₁ b₂ (e, k) = (
  b₁.told ∙ ap f e ∙ sym b₂.told,
  subst (λ (e₁ : List ℕ). Kept Sealed stored_to m₁ m₂ e₁ e₂) (sym b₁.leaves)
      (subst (λ (e₂ : List ℕ). Kept Sealed stored_to m₁ m₂ (exec p₁ m₁).1 e₂) (sym b₂.leaves) k),
)

module _ (registers cycles lines : ℕ) (Sealed : ℕ → Type 0) (m₁ m₂ : List ℕ) (d : Differ Sealed m₁ m₂) where
  apart : Apart registers cycles lines Sealed m₁ m₂
  apart = record {
    step_apart = λ u g₁ g₂.
        shared Sealed _ _ _ _ _ _ (step_behind registers cycles lines m₁ g₁) (step_behind registers cycles lines m₂ g₂)
        (step_sealed Sealed _ _ m₁ m₂ d u refl refl);
    run_apart = λ bound u g₁ g₂.
        shared Sealed _ _ _ _ _ _ (run_behind registers cycles lines m₁ bound g₁) (run_behind registers cycles lines m₂ bound g₂)
        (run_sealed_lem Sealed bound _ _ m₁ m₂ d u refl refl);
    long_run_apart = λ bound u g₁ g₂.
        shared Sealed _ _ _ _ _ _ (long_run_behind registers cycles lines m₁ bound g₁) (long_run_behind registers cycles lines m₂ bound g₂)
        (long_run_sealed Sealed bound _ _ m₁ m₂ d u refl refl);
    cycles_apart = λ limit u g₁ g₂.
        shared Sealed _ _ _ _ _ _ (cycles_behind registers cycles lines m₁ limit g₁) (cycles_behind registers cycles lines m₂ limit g₂)
        (run_cycles_sealed Sealed limit _ _ m₁ m₂ d u refl refl);
  }

-- Every demand is met by the C functions.
pub correct : Correct
correct = record { demand_1 = answered; demand_2 = equal; one_result = only_one; demand_3 = apart }
