-- What the promises of inner functions name: any number of steps, and a turn, on numbers.
use Rattle.std.specs.Prelude.{ℕ, ◌≡◌, List}
use Rattle.manual.specs.Micro.{Micro, done, ◌>>=◌, exec, Gives}
use Rattle.manual.specs.Stepping.{run_full}
use Rattle.mos6502_numbers.specs.Machines.{machine_from, lines_from}
use Rattle.cpu.specs.Inner.Turning.{turning, settled}
use Rattle.mos6502.specs.Numbers.{RunNumbers, run_numbers}

-- any number of steps on a full memory
unfoldable pub run_full_on_numbers : ℕ → ℕ → ℕ → ℕ → Micro RunNumbers
run_full_on_numbers bound lines registers cycles = do
  q ← run_full bound 0 (lines_from lines) (machine_from registers cycles)
  done (run_numbers registers cycles q)

-- and a turn
unfoldable pub turn_on_numbers : ℕ → ℕ → ℕ → ℕ → Micro RunNumbers
turn_on_numbers bound lines registers cycles = do
  w ← turning bound (lines_from lines) (machine_from registers cycles)
  done (run_numbers registers cycles w.ended)

-- such a turn gives v, and the numbers of v are again those of the machine that it leaves
abbrev pub Turned : ℕ → ℕ → ℕ → ℕ → List ℕ → RunNumbers → List ℕ → Type 0
Turned bound lines registers cycles m v m' =
    Gives (turn_on_numbers bound lines registers cycles) m v m'
    × (machine_from v.registers v.cycles
    ≡ (settled (machine_from registers cycles) (exec (turning bound (lines_from lines) (machine_from registers cycles)) m).0.ended).machine)

-- and such a run
abbrev pub Ran : ℕ → ℕ → ℕ → ℕ → List ℕ → RunNumbers → List ℕ → Type 0
Ran bound lines registers cycles m v m' =
    Gives (run_full_on_numbers bound lines registers cycles) m v m'
    × (machine_from v.registers v.cycles ≡ (exec (run_full bound 0 (lines_from lines) (machine_from registers cycles)) m).0.machine)
