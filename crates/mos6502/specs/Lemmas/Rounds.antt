-- A run on numbers, turn by turn: what holds before each turn, and what one turn makes of it.
use Rattle.std.specs.Prelude.{ℕ, ◌+◌, ◌-◌, ◌≤◌, ◌<◌, cond, ◌≡◌, refl, List, ltb}
use Rattle.std.proofs.Common.{ap, sym, ◌∙◌, subst, arith}
use Rattle.manual.specs.declared.Lines.{Lines}
use Rattle.manual.specs.declared.Machine.{Machine}
use Rattle.manual.specs.declared.Ended.{Ended}
use Rattle.manual.specs.declared.Reason.{Reason}
use Rattle.manual.specs.declared.Reason.TheVariants.{Made}
use Rattle.manual.specs.Micro.{exec, Gives}
use Rattle.manual.specs.Outcomes.{number, ended}
use Rattle.manual.specs.Stepping.{run_full}
use Rattle.manual.proofs.Lemmas.StepLaws.{run_end}
use Rattle.manual.proofs.Theorems.Lunch.{added, added_none, added_twice}
use Rattle.cpu.specs.declared.Travelled.{Travelled}
use Rattle.cpu.specs.Inner.Turning.{Fits, going, turning, settled}
use Rattle.cpu.specs.Lemmas.Turning.{going_fits, going_most, turn_few, turn_stops, turn_goes}
use Rattle.mos6502_numbers.specs.Machines.{machine_from, lines_from, registers_after, cycles_after}
use Rattle.mos6502.specs.Numbers.{RunNumbers, run_numbers}
use Rattle.mos6502.specs.Inner.Turns.{turn_on_numbers, Ran}
use Rattle.mos6502.specs.Lemmas.Numbers.{zero_made, other_refused, number_of, count_of, onward, turn_of, run_gives}

-- The two numbers after `total` steps: as they were given if none is made, and otherwise those of the machine that they hold.
pub record Handed (registers₀ cycles₀ total registers cycles : ℕ) : Type 0 where
  pub numbers : registers ≡ cond (ltb 0 total) (number_of (machine_from registers cycles)) registers₀
  pub count : cycles ≡ cond (ltb 0 total) (count_of (machine_from registers cycles)) cycles₀

pub given : (registers cycles : ℕ) → Handed registers cycles 0 registers cycles
given registers cycles = record { numbers = refl; count = refl }

module _ {registers₀ cycles₀ total registers cycles : ℕ} (handed : Handed registers₀ cycles₀ total registers cycles) where
  -- what comes back of a run that leaves their machine
  pub handed_back : (r : Reason) (s : Machine) → machine_from registers cycles ≡ s
      → run_numbers registers₀ cycles₀ (ended r total s) ≡ record { answer = number r; steps = total; registers = registers; cycles = cycles }
  handed_back r s same = rw (sym same, sym handed.numbers, sym handed.count)

  -- after more steps
  pub handed_on : (q : Ended) → machine_from (registers_after (ltb 0 q.steps) q.machine registers) (cycles_after (ltb 0 q.steps) q.machine cycles) ≡ (settled (machine_from registers cycles) q).machine
      → Handed registers₀ cycles₀ (total + q.steps) (registers_after (ltb 0 q.steps) q.machine registers) (cycles_after (ltb 0 q.steps) q.machine cycles)
  handed_on q same = record {
    numbers = onward number_of total q.steps registers₀ registers q.machine (machine_from registers cycles) handed.numbers
        ∙ ap (λ (s : Machine). cond (ltb 0 (total + q.steps)) (number_of s) registers₀) (sym same);
    count = onward count_of total q.steps cycles₀ cycles q.machine (machine_from registers cycles) handed.count
        ∙ ap (λ (s : Machine). cond (ltb 0 (total + q.steps)) (count_of s) cycles₀) (sym same);
  }

-- Of a run of `bound` steps `total` are made: what is left of it goes on from the numbers.
pub record Round (bound lines registers₀ cycles₀ : ℕ) (m₀ : List ℕ) (total registers cycles : ℕ) (m : List ℕ) : Type 0 where
  pub rest : exec (run_full bound 0 (lines_from lines) (machine_from registers₀ cycles₀)) m₀
      ≡ added total (exec (run_full (bound - total) 0 (lines_from lines) (machine_from registers cycles)) m)
  pub handed : Handed registers₀ cycles₀ total registers cycles

pub at_first : (bound lines registers cycles : ℕ) (m : List ℕ) → Round bound lines registers cycles m 0 registers cycles m
at_first bound lines registers cycles m = record {
  rest = let e : bound ≡ bound - 0 = omega arith in
      ap (λ (n : ℕ). exec (run_full n 0 (lines_from lines) (machine_from registers cycles)) m) e ∙ added_none _;
  handed = given registers cycles;
}

-- where the steps that were made are all
ran : (bound lines registers₀ cycles₀ : ℕ) (m₀ : List ℕ) {total registers cycles : ℕ} {r : Reason} {s : Machine} {m : List ℕ} → Handed registers₀ cycles₀ total registers cycles
    → Gives (run_full bound 0 (lines_from lines) (machine_from registers₀ cycles₀)) m₀ (ended r total s) m
    → machine_from registers cycles ≡ s
    → Ran bound lines registers₀ cycles₀ m₀ (record { answer = number r; steps = total; registers = registers; cycles = cycles }) m
ran bound lines registers₀ cycles₀ m₀ {r = r} {s = s} {m = m} handed g same = (
  run_gives lines registers₀ cycles₀ m₀ bound g ∙ ap (λ (v : RunNumbers). (v, m)) (handed_back handed r s same),
  same ∙ ap (λ (w : Ended × List ℕ). w.0.machine) (sym g),
)

module _ (bound lines registers₀ cycles₀ : ℕ) (m₀ : List ℕ) (total registers cycles : ℕ) (m : List ℕ) (round : Round bound lines registers₀ cycles₀ m₀ total registers cycles m) where
  abbrev present : Lines
  present = lines_from lines

  abbrev machine : Machine
  machine = machine_from registers cycles

  -- if all steps are made
  pub at_last : total ≡ bound → Ran bound lines registers₀ cycles₀ m₀ (record { answer = 0; steps = total; registers = registers; cycles = cycles }) m
  at_last e =
      let none : bound - total ≡ 0 = omega arith in
      let same : total + 0 ≡ total = omega arith in
      ran bound lines registers₀ cycles₀ m₀ round.handed
      (round.rest
      ∙ ap (λ (n : ℕ). added total (exec (run_full n 0 present machine) m)) none
      ∙ ap (added total) (run_end 0 present machine m)
      ∙ ap (λ (k : ℕ). (ended Made k machine, m)) same)
      refl

  module _ (l : total < bound) where
    abbrev n : ℕ
    n = bound - total

    left : 0 < n
    left = omega arith

    abbrev far : ℕ
    far = going present cycles n

    fits : Fits cycles far
    fits = going_fits present cycles n left

    most : far ≤ n
    most = going_most present cycles n left

    abbrev w : Travelled × List ℕ
    w = exec (turning far present machine) m

    -- What a turn makes of it.
    pub record Turns (v : RunNumbers) (m' : List ℕ) : Type 0 where
      pub few : total + v.steps ≤ bound
      pub goes : v.answer ≡ 0
          → (0 < v.steps) × Round bound lines registers₀ cycles₀ m₀ (total + v.steps) v.registers v.cycles m'
      pub stops : (v.answer ≡ 0 → ⊥)
          → Ran bound lines registers₀ cycles₀ m₀ (record { answer = v.answer; steps = total + v.steps; registers = v.registers; cycles = v.cycles }) m'

    abbrev v : RunNumbers
    v = run_numbers registers cycles w.0.ended

    abbrev q : Ended
    q = settled machine w.0.ended

    turns : machine_from v.registers v.cycles ≡ q.machine → Turns v w.1
    turns same = record {
      few = omega (arith, turn_few present machine n far fits.0 most m {r = w.0} {m' = w.1} refl);
      goes = λ e.
          let g = turn_goes present machine n far fits.0 most m {r = w.0} {m' = w.1} refl (zero_made q.reason e) in
          let less : n - q.steps ≡ bound - (total + q.steps) = omega arith in (
            g.0,
            record {
              rest = round.rest
                  ∙ ap (added total) g.1
                  ∙ added_twice total q.steps _
                  ∙ ap (λ (k : ℕ). added (total + q.steps) (exec (run_full k 0 present q.machine) w.1)) less
                  ∙ ap (λ (s : Machine). added (total + q.steps) (exec (run_full (bound - (total + q.steps)) 0 present s) w.1)) (sym same);
              handed = handed_on round.handed w.0.ended same;
            },
          );
      stops = λ f.
          ran bound lines registers₀ cycles₀ m₀ (handed_on round.handed w.0.ended same)
          (round.rest ∙ ap (added total) (turn_stops present machine n far fits.0 most m {r = w.0} {m' = w.1} refl (other_refused q.reason f)))
          same;
    }

    -- from what comes back of the turn
    pub round_turns : {v : RunNumbers} {m' : List ℕ} → Gives (turn_on_numbers far lines registers cycles) m v m'
        → machine_from v.registers v.cycles ≡ q.machine
        → Turns v m'
    round_turns g =
        subst (λ (z : RunNumbers × List ℕ). machine_from z.0.registers z.0.cycles ≡ q.machine → Turns z.0 z.1) (turn_of lines registers cycles m far g) turns
