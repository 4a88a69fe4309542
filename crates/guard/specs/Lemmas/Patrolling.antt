-- One step of a patrol: what it leaves on the clock, and what the steps that are left give from there.
use Rattle.std.specs.Prelude.{◌≡◌, ℕ, suc, ◌+◌, ◌-◌, ◌*◌, ◌%◌, ◌<◌, ◌≤◌, Bool, false, cond, not, ◌&&◌, List, Option, Some, None, refl}
use Rattle.std.proofs.Common.{ap, subst, sym, ◌∙◌, arith, ltb, le-ltb, lt-ltb}
use Rattle.registers.specs.declared.Registers.{Registers}
use Rattle.instruction.specs.Opcodes.{decoded}
use Rattle.manual.specs.declared.Machine.{Machine}
use Rattle.manual.specs.declared.Reason.TheVariants.{Made, NotAnOpcode}
use Rattle.manual.specs.Micro.{Gives}
use Rattle.manual.specs.Outcomes.{machine_of}
use Rattle.manual.specs.Interrupts.{due}
use Rattle.manual.specs.Stepping.{highest_count, step_full}
use Rattle.manual.proofs.Lemmas.StepLaws.{opcode_of}
use Rattle.opcode_effects.specs.declared.Performed.{Performed}
use Rattle.opcode_effects.specs.Inner.Performing.{ticks_of, dispatched}
use Rattle.cpu.specs.Theorems.Steps.{step_by, StepsBy, step_by_lem}
use Rattle.cpu.specs.Inner.Turning.{raised}
use Rattle.cpu.specs.Lemmas.Clock.{steps_in, cycles_in, Keeps, no_step, last_cycles, less_steps, more_cycles, less}
use Rattle.cpu.specs.Lemmas.Walking.{taken_off}
use Rattle.guard_maps.specs.declared.Touch.{Touch}
use Rattle.guard_maps.specs.Maps.{ahead_of}
use Rattle.guard_near.specs.Inner.Near.{Untouched}
use Rattle.guard.specs.Guarded.{Guarded, ran, halted, guarded_full}
use Rattle.guard.specs.Lemmas.Guarding.{none_ahead, guarded_halts, guarded_goes_on, guarded_stops, guarded_end, held_quiet, level_held}

put_back : (clock ticks : ℕ) → clock < 18446744073709551616 → ticks ≤ 268435456
    → (taken_off clock ticks + ticks) % 18446744073709551616 ≡ clock
put_back clock ticks l w = omega arith

-- the machine by the clock
module _ (start : Machine) (nmi : Bool) (made bound : ℕ) where
  abbrev pub now_at : ℕ → Registers → Machine
  now_at clock r = machine_of r (start.cycles + cycles_in clock) (cond (ltb made (bound - 1 - steps_in clock)) nmi start.nmi)

module _ (reads stores : ℕ → Bool) (start : Machine) (nmi : Bool) (made bound : ℕ) where
  abbrev now : ℕ → Registers → Machine
  now = now_at start nmi made bound

  -- what the steps that are left give, by the clock
  abbrev pub left_by : ℕ → Registers → List ℕ → Guarded × List ℕ
  left_by clock r m = guarded_full reads stores (suc (steps_in clock)) (bound - 1 - steps_in clock) (raised nmi) (now clock r) m

  same_at : (r : Registers) (m : List ℕ) {n n' k k' c c' : ℕ} {t t' : Bool} → n ≡ n' → k ≡ k' → c ≡ c' → t ≡ t'
      → guarded_full reads stores n k (raised nmi) (machine_of r c t) m ≡ guarded_full reads stores n' k' (raised nmi) (machine_of r c' t') m
  same_at r m e f g h = rw (e, f, g, h)

  module _ (some : 0 < bound - made) (most : bound - made ≤ 16777216) where
    pub begun : (r : Registers) (m : List ℕ)
        → guarded_full reads stores (bound - made) made (raised nmi) (machine_of r start.cycles start.nmi) m ≡ left_by ((bound - made - 1) * 268435456) r m
    begun r m =
        let none : steps_in ((bound - made - 1) * 268435456) ≡ bound - made - 1 = omega (arith, some) in
        let first : made ≡ bound - 1 - steps_in ((bound - made - 1) * 268435456) = omega (arith, none, some) in
        same_at r m (omega (arith, none, some)) first (omega arith) (sym (ap (λ (t : Bool). cond t nmi start.nmi) (le-ltb made _ (omega (arith, first)))))

    module _ (held : (start.nmi && not nmi) ≡ false) (room : start.cycles + 7 * (bound - made - 1) ≤ highest_count)
        (clock : ℕ) (below : steps_in clock < bound - made) (keeps : Keeps (bound - made) clock) (r : Registers) (m : List ℕ) where
      spare : start.cycles + cycles_in clock ≤ highest_count
      spare = omega (arith, keeps, room)

      quiet : due (raised nmi) (now clock r) ≡ None
      quiet = held_quiet nmi (now clock r) (level_held (ltb made (bound - 1 - steps_in clock)) start.nmi nmi held)

      pub unseen : Untouched reads stores r m → ahead_of reads stores (raised nmi) (now clock r) m ≡ None
      unseen free = none_ahead reads stores (raised nmi) (now clock r) m spare quiet free

      pub sees : (t : Touch) → ahead_of reads stores (raised nmi) (now clock r) m ≡ Some t
          → left_by clock r m ≡ (halted t (bound - 1 - steps_in clock) (now clock r), m)
      sees t e = guarded_halts reads stores _ _ _ (now clock r) m t e

      module _ (opcode : ℕ) (byte : opcode ≡ opcode_of (now clock r) m) {q : Option Performed} {m' : List ℕ} (gives : Gives (dispatched (decoded opcode) r) m q m') where
        next : StepsBy (raised nmi) (now clock r) m q m'
        next = step_by_lem _ _ _ spare quiet opcode byte gives

        steps : (d : Option Performed) → q ≡ d → Gives (step_full (raised nmi) (now clock r)) m (step_by (raised nmi) (now clock r) d) m'
        steps d is = subst (λ (d : Option Performed). Gives (step_full (raised nmi) (now clock r)) m (step_by (raised nmi) (now clock r) d) m') is next.gives

        pub halts : ahead_of reads stores (raised nmi) (now clock r) m ≡ None → q ≡ None
            → left_by clock r m ≡ (ran NotAnOpcode (bound - 1 - steps_in clock) (now clock r), m')
        halts none is = guarded_stops reads stores _ _ _ (now clock r) m _ _ none (steps None is) refl

        module _ (p : Performed) (is : q ≡ Some p) (then : ℕ) (off : then ≡ taken_off clock p.ticks) where
          few : ticks_of p.ticks ≤ 7
          few = rw is at next.few

          within : p.ticks ≤ 268435456
          within = rw is at next.within

          small : clock < 18446744073709551616
          small = omega (arith, below, most)

          fits : then < 18446744073709551616
          fits = omega (arith, off)

          back : (then + p.ticks) % 18446744073709551616 ≡ clock
          back = rw off (put_back clock p.ticks small within)

          after : ahead_of reads stores (raised nmi) (now clock r) m ≡ None → left_by clock r m
              ≡ guarded_full reads stores (steps_in clock) (bound - 1 - steps_in clock + 1) (raised nmi) (machine_of p.registers (start.cycles + cycles_in clock + ticks_of p.ticks) nmi) m'
          after none = guarded_goes_on reads stores _ _ _ (now clock r) m _ _ none (steps (Some p) is) refl

          -- the last step
          last_count : clock < p.ticks → (then + 268435456) % 18446744073709551616 ≡ cycles_in clock + ticks_of p.ticks
          last_count lt = last_cycles (bound - made) clock p.ticks then most keeps few within small fits back lt

          pub last_room : clock < p.ticks → start.cycles + (then + 268435456) % 18446744073709551616 < 18446744073709551616
          last_room lt = omega (arith, last_count lt, few, keeps, room)

          pub ends : ahead_of reads stores (raised nmi) (now clock r) m ≡ None → clock < p.ticks
              → left_by clock r m ≡ (ran Made bound (machine_of p.registers (start.cycles + (then + 268435456) % 18446744073709551616) nmi), m')
          ends none lt =
              let over = no_step (bound - made) clock p.ticks then most keeps few within small fits back lt in
              after none
              ∙ same_at p.registers m' over (omega (arith, over, some)) (omega (arith, last_count lt)) refl
              ∙ guarded_end reads stores _ _ _ _

          -- a step that others follow
          module _ (ge : p.ticks ≤ clock) where
            one_less : steps_in clock ≡ suc (steps_in then)
            one_less = less_steps (bound - made) clock p.ticks then most keeps few within small fits back ge

            longer : cycles_in then ≡ cycles_in clock + ticks_of p.ticks
            longer = more_cycles (bound - made) clock p.ticks then most keeps few within small fits back ge

            pub falls : then < clock
            falls = less (bound - made) clock p.ticks then most keeps few within small fits back ge

            pub still_below : steps_in then < bound - made
            still_below = omega (arith, one_less, below)

            pub still_keeps : Keeps (bound - made) then
            still_keeps = omega (arith, one_less, longer, few, keeps)

            pub goes : ahead_of reads stores (raised nmi) (now clock r) m ≡ None → left_by clock r m ≡ left_by then p.registers m'
            goes none =
                after none
                ∙ same_at p.registers m' one_less (omega (arith, one_less, below)) (omega (arith, longer))
                (sym (ap (λ (t : Bool). cond t nmi start.nmi) (lt-ltb made _ (omega (arith, one_less, below)))))
