-- A run by cycles on numbers, run by run: what holds before each run by steps, and what one makes of it.
use Rattle.std.specs.Prelude.{ℕ, ◌+◌, ◌-◌, ◌*◌, ◌/◌, ◌≤◌, ◌<◌, Bool, true, false, cond, ◌≡◌, refl, List, ltb}
use Rattle.std.proofs.Common.{ap, sym, ◌∙◌, subst, arith}
use Rattle.manual.specs.declared.Lines.{Lines}
use Rattle.manual.specs.declared.Machine.{Machine}
use Rattle.manual.specs.declared.Ended.{Ended}
use Rattle.manual.specs.declared.Reason.{Reason}
use Rattle.manual.specs.Micro.{exec, Gives}
use Rattle.manual.specs.Outcomes.{number, ended}
use Rattle.manual.specs.Stepping.{full_memory, highest_bound, run_full, spend_full}
use Rattle.cpu_cycles.specs.Lemmas.Budget.{Budget, unspent, spent, some, few, Pays, pays}
use Rattle.mos6502_numbers.specs.Machines.{machine_from, lines_from, registers_after, cycles_after}
use Rattle.mos6502.specs.Numbers.{RunNumbers, run_numbers, run_cycles_on_numbers}
use Rattle.mos6502.specs.Inner.Turns.{Ran}
use Rattle.mos6502.specs.Lemmas.Numbers.{zero_made, other_refused, run_of, spend_gives}
use Rattle.mos6502.specs.Lemmas.Rounds.{Handed, given, handed_back, handed_on}

-- the machine that counts is the one that is left, also where no step was made
settle : (t : Bool) (registers cycles : ℕ) (q : Machine) → machine_from (registers_after t q registers) (cycles_after t q cycles) ≡ q
    → machine_from (registers_after t q registers) (cycles_after t q cycles) ≡ cond t q (machine_from registers cycles)
settle true registers cycles q same = same
settle false registers cycles q same = refl

module _ (limit lines registers₀ cycles₀ : ℕ) (m₀ : List ℕ) where
  abbrev present : Lines
  present = lines_from lines

  -- Of a run of `limit` cycles `total` steps are made: what is left of it goes on from the numbers.
  pub record Spending (total registers cycles : ℕ) (m : List ℕ) : Type 0 where
    pub budget : Budget limit present (machine_from registers₀ cycles₀) m₀ total (machine_from registers cycles) m
    pub handed : Handed registers₀ cycles₀ total registers cycles

  pub none_spent : Spending 0 registers₀ cycles₀ m₀
  none_spent = record { budget = unspent limit present (machine_from registers₀ cycles₀) m₀; handed = given registers₀ cycles₀ }

  module _ (size : ℕ) (full : size ≡ full_memory) (allowed : limit ≤ highest_bound) where
    abbrev Whole : RunNumbers → List ℕ → Type 0
    Whole = Gives (run_cycles_on_numbers size limit lines registers₀ cycles₀) m₀

    came : {total registers cycles : ℕ} {r : Reason} {s : Machine} {m : List ℕ} → Handed registers₀ cycles₀ total registers cycles
        → Gives (spend_full limit (cycles₀ + limit) 0 present (machine_from registers₀ cycles₀)) m₀ (ended r total s) m
        → machine_from registers cycles ≡ s
        → Whole (record { answer = number r; steps = total; registers = registers; cycles = cycles }) m
    came {r = r} {s = s} {m = m} handed g same =
        spend_gives lines registers₀ cycles₀ m₀ size limit full allowed g ∙ ap (λ (v : RunNumbers). (v, m)) (handed_back handed r s same)

    module _ {total registers cycles : ℕ} {m : List ℕ} (spending : Spending total registers cycles m) where
      pub all_spent : cycles₀ + limit ≤ cycles → Whole (record { answer = 0; steps = total; registers = registers; cycles = cycles }) m
      all_spent h = came spending.handed (spent limit present (machine_from registers₀ cycles₀) m₀ spending.budget h) refl

      module _ (n : ℕ) (some : 0 < n) (few : cycles + 7 * n < cycles₀ + limit + 7) where
        -- What a run of n steps makes of it.
        pub record Spends (v : RunNumbers) (m' : List ℕ) : Type 0 where
          pub fits : total + v.steps ≤ limit
          pub goes : v.answer ≡ 0 → (cycles < v.cycles) × Spending (total + v.steps) v.registers v.cycles m'
          pub stops : (v.answer ≡ 0 → ⊥)
              → Whole (record { answer = v.answer; steps = total + v.steps; registers = v.registers; cycles = v.cycles }) m'

        abbrev w : Ended × List ℕ
        w = exec (run_full n 0 present (machine_from registers cycles)) m

        abbrev q : Ended
        q = w.0

        abbrev v : RunNumbers
        v = run_numbers registers cycles q

        paid : Pays limit present (machine_from registers₀ cycles₀) m₀ spending.budget n some few q w.1
        paid = pays limit present (machine_from registers₀ cycles₀) m₀ spending.budget n some few refl

        spends : machine_from v.registers v.cycles ≡ q.machine → Spends v w.1
        spends same =
            let on = handed_on spending.handed q (settle (ltb 0 q.steps) registers cycles q.machine same) in
            record {
              fits = paid.fits;
              goes = λ e.
                  let g = paid.goes (zero_made q.reason e) in (
                    omega (arith, g.0, ap (λ (s : Machine). s.cycles) same),
                    record {
                      budget = subst (λ (s : Machine). Budget limit present (machine_from registers₀ cycles₀) m₀ (total + q.steps) s w.1) (sym same) g.1;
                      handed = on;
                    },
                  );
              stops = λ f. came on (paid.stops (other_refused q.reason f)) same;
            }

        -- from what comes back of the run
        pub ran_spends : {v : RunNumbers} {m' : List ℕ} → Ran n lines registers cycles m v m' → Spends v m'
        ran_spends g =
            subst (λ (z : RunNumbers × List ℕ). machine_from z.0.registers z.0.cycles ≡ q.machine → Spends z.0 z.1) (run_of lines registers cycles m n g.0) spends
            g.1

      -- of the run that the loop makes
      module _ (n : ℕ) (sure : n ≡ (limit - (cycles - cycles₀) - 1) / 7 + 1) (on : cycles - cycles₀ < limit) where
        pub sure_spends : {v : RunNumbers} {m' : List ℕ} → Ran n lines registers cycles m v m'
            → Spends n (some limit present (machine_from registers₀ cycles₀) m₀ spending.budget n sure on) (few limit present (machine_from registers₀ cycles₀) m₀ spending.budget n sure on) v m'
        sure_spends = ran_spends n (some limit present (machine_from registers₀ cycles₀) m₀ spending.budget n sure on) (few limit present (machine_from registers₀ cycles₀) m₀ spending.budget n sure on)
