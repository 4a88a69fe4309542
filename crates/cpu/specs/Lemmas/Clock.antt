-- The clock of a turn: the steps that follow the next one, times 268435456, and the cycles that were made.
use Rattle.std.specs.Prelude.{◌≡◌, ℕ, suc, ◌+◌, ◌-◌, ◌*◌, ◌/◌, ◌%◌, ◌<◌, ◌≤◌}
use Rattle.std.proofs.Common.{ap, ◌∙◌, arith}
use Rattle.opcode_effects.specs.Inner.Performing.{ticks_of}

abbrev pub steps_in : ℕ → ℕ
steps_in clock = clock / 268435456

abbrev pub cycles_in : ℕ → ℕ
cycles_in clock = clock % 268435456

-- of a turn of so many steps each made at most seven cycles
abbrev pub Keeps : ℕ → ℕ → Type 0
Keeps bound clock = cycles_in clock + 7 * steps_in clock ≤ 7 * (bound - 1)

parted_steps : (q e : ℕ) → e < 268435456 → steps_in (268435456 * q + e) ≡ q
parted_steps q e l = omega arith

parted_cycles : (q e : ℕ) → e < 268435456 → cycles_in (268435456 * q + e) ≡ e
parted_cycles q e l = omega arith

-- a step takes its ticks off, modulo 2^64
module _ (bound clock ticks next : ℕ)
    (most : bound ≤ 16777216) (keeps : Keeps bound clock) (few : ticks_of ticks ≤ 7) (within : ticks ≤ 268435456)
    (fits : clock < 18446744073709551616) (fits_next : next < 18446744073709551616) (off : (next + ticks) % 18446744073709551616 ≡ clock) where
  -- if no step follows, it cannot
  pub no_step : clock < ticks → steps_in clock ≡ 0
  no_step l = omega (arith, within)

  pub last_cycles : clock < ticks → (next + 268435456) % 18446744073709551616 ≡ cycles_in clock + ticks_of ticks
  last_cycles l = omega arith

  module _ (l : ticks ≤ clock) where
    small : cycles_in clock + ticks_of ticks < 268435456
    small = omega arith

    some : 0 < steps_in clock
    some = omega arith

    -- if it can, one step less follows
    taken : next ≡ 268435456 * (steps_in clock - 1) + (cycles_in clock + ticks_of ticks)
    taken = whole (steps_in clock) (cycles_in clock) some (omega arith) (omega arith)
      where
        whole : (q e : ℕ) → 0 < q → clock ≡ 268435456 * q + e → next ≡ clock - ticks → next ≡ 268435456 * (q - 1) + (e + ticks_of ticks)
        whole q e p i n = omega (arith, p, i, n, within, l)

    pub less_steps : steps_in clock ≡ suc (steps_in next)
    less_steps = let e : steps_in next ≡ steps_in clock - 1 = ap steps_in taken ∙ parted_steps _ _ small in omega (arith, e, some)

    pub more_cycles : cycles_in next ≡ cycles_in clock + ticks_of ticks
    more_cycles = ap cycles_in taken ∙ parted_cycles _ _ small

    pub less : next < clock
    less = omega arith
