-- The interrupt lines (P6): each alone, both, masked, staying low, S going round, at the last count, at no opcode; a run of two steps.
use Rattle.std.specs.Prelude.{ℕ, ◌≡◌, refl, true, false, List, [], ◌∷◌, map}
use Rattle.registers.specs.StatusByte.{status_byte, pulled_status}
use Rattle.registers.specs.State.{set_s, set_pc, set_status, set_i, flags}
use Rattle.instruction.specs.Opcodes.{rows, decoded}
use Rattle.manual.specs.declared.Lines.{Lines}
use Rattle.manual.specs.declared.Machine.{Machine}
use Rattle.manual.specs.declared.Reason.{Reason}
use Rattle.manual.specs.declared.Reason.TheVariants.{Made, NoCycleRoom}
use Rattle.manual.specs.Micro.{exec}
use Rattle.manual.specs.Outcomes.{machine_of, ended}
use Rattle.manual.specs.Stack.{push, push_address}
use Rattle.manual.specs.Internal.{internal}
use Rattle.manual.specs.Interrupts.{enter, served, idle}
use Rattle.manual.specs.Instructions.{perform}
use Rattle.manual.specs.Stepping.{run_while, act, attend, step_full, step, run_full, run}
use Rattle.manual.specs.Inner.Laying.{memory, machine}
use Rattle.manual_examples.specs.Theorems.Steps.{Example, outcome, expected, example, leaving}

abbrev irq_low : Lines
irq_low = record { irq = false; nmi = true }

abbrev nmi_low : Lines
nmi_low = record { irq = true; nmi = false }

abbrev both_low : Lines
both_low = record { irq = false; nmi = false }

-- the same machine, but NMI was low
abbrev was_low : Machine → Machine
was_low s = machine_of s.registers s.cycles false

-- NMI leads to 3000 and IRQ to 4000; at 0234 stands a NOP, at 0235 a byte that is no opcode
abbrev bells : List (ℕ × List ℕ)
bells = (0xFFFA, 0x00 ∷ 0x30 ∷ []) ∷ (0xFFFE, 0x00 ∷ 0x40 ∷ []) ∷ (0x0234, 0xEA ∷ 0x02 ∷ []) ∷ (0x3000, 0xEA ∷ []) ∷ []

unfoldable pub rung : List (Lines × Example)
rung =
    -- IRQ alone: the status goes on the stack with bit 4 clear, I is set and D kept
    (irq_low, leaving (machine 0 0x0234 0 0 0 0xFF 0x39) bells (machine 7 0x4000 0 0 0 0xFC 0x3D) 0x01FD 0x29)
    -- the counter is where the way back leads, high byte first
    ∷ (irq_low, leaving (machine 0 0x0234 0 0 0 0xFF 0x39) bells (machine 7 0x4000 0 0 0 0xFC 0x3D) 0x01FF 0x02)
    ∷ (irq_low, leaving (machine 0 0x0234 0 0 0 0xFF 0x39) bells (machine 7 0x4000 0 0 0 0xFC 0x3D) 0x01FE 0x34)
    -- NMI alone, whatever I is
    ∷ (nmi_low, leaving (machine 0 0x0234 0 0 0 0xFF 0x30) bells (was_low (machine 7 0x3000 0 0 0 0xFC 0x34)) 0x01FD 0x20)
    ∷ (nmi_low, leaving (machine 0 0x0234 0 0 0 0xFF 0x34) bells (was_low (machine 7 0x3000 0 0 0 0xFC 0x34)) 0x01FD 0x24)
    -- both together: NMI first
    ∷ (both_low, leaving (machine 0 0x0234 0 0 0 0xFF 0x30) bells (was_low (machine 7 0x3000 0 0 0 0xFC 0x34)) 0x01FD 0x20)
    -- IRQ with I set, NMI low and staying low, idle lines after a low one: the NOP
    ∷ (irq_low, example (machine 0 0x0234 0 0 0 0xFF 0x34) bells Made (machine 2 0x0235 0 0 0 0xFF 0x34))
    ∷ (nmi_low, example (was_low (machine 0 0x0234 0 0 0 0xFF 0x30)) bells Made (was_low (machine 2 0x0235 0 0 0 0xFF 0x30)))
    ∷ (idle, example (was_low (machine 0 0x0234 0 0 0 0xFF 0x30)) bells Made (machine 2 0x0235 0 0 0 0xFF 0x30))
    -- with S 00 and S 01 the pushes go round in page 01
    ∷ (irq_low, leaving (machine 0 0x0234 0 0 0 0x00 0x30) bells (machine 7 0x4000 0 0 0 0xFD 0x34) 0x01FE 0x20)
    ∷ (irq_low, leaving (machine 0 0x0234 0 0 0 0x01 0x30) bells (machine 7 0x4000 0 0 0 0xFE 0x34) 0x01FF 0x20)
    -- from the count ..608 a line is served; ..609 gives 2, and the last level is kept
    ∷ (nmi_low, leaving (machine 18446744073709551608 0x0234 0 0 0 0xFF 0x30) bells (was_low (machine 18446744073709551615 0x3000 0 0 0 0xFC 0x34)) 0x01FD 0x20)
    ∷ (both_low, example (machine 18446744073709551609 0x0234 0 0 0 0xFF 0x30) bells NoCycleRoom (machine 18446744073709551609 0x0234 0 0 0 0xFF 0x30))
    -- a line is served if the byte at the counter is no opcode
    ∷ (irq_low, leaving (machine 0 0x0235 0 0 0 0xFF 0x30) bells (machine 7 0x4000 0 0 0 0xFC 0x34) 0x01FE 0x35)
    ∷ []

abbrev outcome_of : Lines × Example → Reason × Machine × ℕ
outcome_of e = outcome e.0 e.1

abbrev expected_of : Lines × Example → Reason × Machine × ℕ
expected_of e = expected e.1

pub line_examples : map outcome_of rung ≡ map expected_of rung
unfolding rung pulled_status status_byte rows decoded set_pc set_s set_status set_i flags push push_address internal served enter perform act attend step_full step
line_examples = refl

-- Both lines are held low in a run of two steps: NMI is served, and then I is set, so that the instruction at 3000 is carried out.
pub run_example : (exec (run 65536 2 both_low (machine 0 0x0234 0 0 0 0xFF 0x30)) (memory bells)).0 ≡ ended Made 2 (was_low (machine 9 0x3001 0 0 0 0xFC 0x34))
unfolding pulled_status status_byte rows decoded set_pc set_s set_status set_i flags push push_address internal served enter perform act attend step_full run_full run_while run
run_example = refl
