-- A run by cycles (P11) at its bounds.
use Rattle.std.specs.Prelude.{ℕ, ◌+◌, ◌/◌, ◌≡◌, refl, List, [], ◌∷◌}
use Rattle.registers.specs.StatusByte.{pulled_status}
use Rattle.registers.specs.State.{set_s, set_pc, set_status, set_i, flags}
use Rattle.instruction.specs.Opcodes.{rows, decoded}
use Rattle.manual.specs.Micro.{exec}
use Rattle.manual.specs.Internal.{internal}
use Rattle.manual.specs.Stack.{push, push_address}
use Rattle.manual.specs.Interrupts.{enter, idle}
use Rattle.manual.specs.Instructions.{perform}
use Rattle.manual.specs.Stepping.{run_while, act, attend, step_full, spend_full, run_cycles}
use Rattle.manual.specs.Inner.Laying.{Laid, machine, memory}

-- what is spent and made from a count of 0, with idle lines and the registers of a report
abbrev spent_and_made : ℕ → List Laid → ℕ × ℕ
spent_and_made limit bytes =
    let w = exec (run_cycles 65536 limit idle (machine 0 0x0200 0 0 0 0xFF 0x34)) (memory bytes) in (w.0.machine.cycles, w.0.steps)

-- Both bounds are reached: BRK takes 7 cycles, one of them the only one that was left; NOP takes 2.
pub cycles_reached : (spent_and_made 1 [] ≡ (1 + 6, 1)) × (spent_and_made 8 [] ≡ (8 + 6, 2))
unfolding pulled_status rows decoded set_s set_pc set_status set_i flags push push_address enter perform act attend step_full spend_full run_while run_cycles
cycles_reached = (refl, refl)

pub steps_reached : (spent_and_made 3 ((0x0200, 0xEA ∷ 0xEA ∷ 0xEA ∷ []) ∷ []) ≡ (4, (3 + 1) / 2)) × (spent_and_made 4 ((0x0200, 0xEA ∷ 0xEA ∷ 0xEA ∷ []) ∷ []) ≡ (4, (4 + 1) / 2))
unfolding pulled_status rows decoded set_pc set_status internal perform act attend step_full spend_full run_while run_cycles
steps_reached = (refl, refl)
