-- One step of the loop: what it leaves on the clock, and what the steps that are left give from there.
use Rattle.std.specs.Prelude.{◌≡◌, ℕ, suc, ◌+◌, ◌-◌, ◌*◌, ◌%◌, ◌<◌, ◌≤◌, Bool, List, Option, Some, None, refl}
use Rattle.std.proofs.Common.{ap, subst, ◌∙◌, arith}
use Rattle.registers.specs.declared.Registers.{Registers}
use Rattle.instruction.specs.Opcodes.{decoded}
use Rattle.manual.specs.declared.Reason.TheVariants.{Made, NotAnOpcode}
use Rattle.manual.specs.Micro.{Micro, exec, Gives}
use Rattle.manual.specs.Outcomes.{machine_of, ended}
use Rattle.manual.specs.Stepping.{highest_count, step_full}
use Rattle.manual.proofs.Lemmas.StepLaws.{opcode_of}
use Rattle.opcode_effects.specs.declared.Performed.{Performed}
use Rattle.opcode_effects.specs.Inner.Performing.{ticks_of, dispatched}
use Rattle.cpu.specs.declared.Travelled.{Travelled}
use Rattle.cpu.specs.Theorems.Steps.{step_by, StepsBy, step_by_lem}
use Rattle.cpu.specs.Inner.Travelling.{travelled, travelling}
use Rattle.cpu.specs.Inner.Turning.{raised}
use Rattle.cpu.specs.Lemmas.Clock.{steps_in, cycles_in, Keeps, no_step, last_cycles, less_steps, more_cycles, less}
use Rattle.cpu.specs.Lemmas.Travelling.{travel_end, travel_made, travel_halts, travel_same, travel_first}
use Rattle.cpu.specs.Lemmas.Turning.{raised_quiet}

-- the clock with so many ticks off, modulo 2^64
abbrev pub taken_off : ℕ → ℕ → ℕ
taken_off clock ticks = (clock + (18446744073709551616 - ticks)) % 18446744073709551616

put_back : (clock ticks : ℕ) → clock < 18446744073709551616 → ticks ≤ 268435456
    → (taken_off clock ticks + ticks) % 18446744073709551616 ≡ clock
put_back clock ticks l w = omega arith

-- what the steps that are left give, by the clock
abbrev pub left_by : Bool → ℕ → ℕ → ℕ → Registers → List ℕ → Travelled × List ℕ
left_by nmi bound count clock r m =
    exec (travelling (suc (steps_in clock)) (bound - 1 - steps_in clock) 0 (raised nmi) (machine_of r (count + cycles_in clock) nmi)) m

module _ (nmi : Bool) (bound count : ℕ) (some : 0 < bound) (most : bound ≤ 16777216) where
  pub begun : (r : Registers) (m : List ℕ)
      → exec (travelling bound 0 0 (raised nmi) (machine_of r count nmi)) m ≡ left_by nmi bound count ((bound - 1) * 268435456) r m
  begun r m = travel_same 0 _ _ _ _ (omega (arith, some)) (omega (arith, some)) (omega (arith, some))

  module _ (room : count + 7 * (bound - 1) ≤ highest_count) (clock : ℕ) (below : steps_in clock < bound) (keeps : Keeps bound clock)
      (r : Registers) (m : List ℕ) (opcode : ℕ) (byte : opcode ≡ opcode_of (machine_of r (count + cycles_in clock) nmi) m)
      {q : Option Performed} {m' : List ℕ} (gives : Gives (dispatched (decoded opcode) r) m q m') where
    next : StepsBy (raised nmi) (machine_of r (count + cycles_in clock) nmi) m q m'
    next = step_by_lem _ _ _ (omega (arith, keeps, room)) (raised_quiet nmi r (count + cycles_in clock)) opcode byte gives

    pub halts : q ≡ None → left_by nmi bound count clock r m
        ≡ (travelled 0 (ended NotAnOpcode (bound - 1 - steps_in clock) (machine_of r (count + cycles_in clock) nmi)), m')
    halts is =
        travel_halts _ _ _ _ _
        (subst (λ (d : Option Performed). Gives (step_full (raised nmi) (machine_of r (count + cycles_in clock) nmi)) m (step_by (raised nmi) (machine_of r (count + cycles_in clock) nmi) d) m') is next.gives)
        _ _ _ refl

    module _ (p : Performed) (is : q ≡ Some p) where
      few : ticks_of p.ticks ≤ 7
      few = rw is at next.few

      within : p.ticks ≤ 268435456
      within = rw is at next.within

      small : clock < 18446744073709551616
      small = omega (arith, below, most)

      after : left_by nmi bound count clock r m
          ≡ exec (travelling (steps_in clock) (bound - 1 - steps_in clock + 1) p.first (raised nmi) (machine_of p.registers (count + cycles_in clock + ticks_of p.ticks) nmi)) m'
      after =
          travel_made _ _ _ _ _
          (subst (λ (d : Option Performed). Gives (step_full (raised nmi) (machine_of r (count + cycles_in clock) nmi)) m (step_by (raised nmi) (machine_of r (count + cycles_in clock) nmi) d) m') is next.gives)
          _ _ _ refl

      module _ (then : ℕ) (off : then ≡ taken_off clock p.ticks) where
        fits : then < 18446744073709551616
        fits = omega (arith, off)

        back : (then + p.ticks) % 18446744073709551616 ≡ clock
        back = rw off (put_back clock p.ticks small within)

        -- the last step
        pub last_count : clock < p.ticks → (then + 268435456) % 18446744073709551616 ≡ cycles_in clock + ticks_of p.ticks
        last_count lt = last_cycles bound clock p.ticks then most keeps few within small fits back lt

        pub last_room : clock < p.ticks → count + (then + 268435456) % 18446744073709551616 < 18446744073709551616
        last_room lt = omega (arith, last_count lt, few, keeps, room)

        pub ends : clock < p.ticks → left_by nmi bound count clock r m
            ≡ (travelled p.first (ended Made bound (machine_of p.registers (count + (then + 268435456) % 18446744073709551616) nmi)), m')
        ends lt =
            let none = no_step bound clock p.ticks then most keeps few within small fits back lt in
            after
            ∙ travel_same p.first _ _ _ _ none (omega (arith, none, some)) (omega (arith, last_count lt))
            ∙ travel_end _ _ _ _ _

        -- a step that others follow
        module _ (ge : p.ticks ≤ clock) where
          one_less : steps_in clock ≡ suc (steps_in then)
          one_less = less_steps bound clock p.ticks then most keeps few within small fits back ge

          longer : cycles_in then ≡ cycles_in clock + ticks_of p.ticks
          longer = more_cycles bound clock p.ticks then most keeps few within small fits back ge

          pub falls : then < clock
          falls = less bound clock p.ticks then most keeps few within small fits back ge

          pub still_below : steps_in then < bound
          still_below = omega (arith, one_less, below)

          pub still_keeps : Keeps bound then
          still_keeps = omega (arith, one_less, longer, few, keeps)

          pub goes : left_by nmi bound count clock r m ≡ left_by nmi bound count then p.registers m'
          goes =
              after
              ∙ travel_same p.first _ _ _ _ one_less (omega (arith, one_less, below)) (omega (arith, longer))
              ∙ ap (λ (w : Micro Travelled). exec w m') (travel_first _ _ _ _ _)
