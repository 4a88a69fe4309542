-- What an instruction, a step and a run leave, and the answer number of each reason (docs/RULES.md).
use Rattle.std.specs.Prelude.{ℕ, Bool, true, false}
use Rattle.laws.specs.Answers.{not_refused, memory_not_full, no_cycle_room, not_an_opcode, bound_too_high}
use Rattle.registers.specs.declared.Registers.{Registers}
use Rattle.manual.specs.declared.Machine.{Machine}
use Rattle.manual.specs.declared.Effect.{Effect}
use Rattle.manual.specs.declared.Stepped.{Stepped}
use Rattle.manual.specs.declared.Ended.{Ended}
use Rattle.manual.specs.declared.Reason.{Reason}
use Rattle.manual.specs.declared.Reason.TheVariants.{Made, MemoryNotFull, NoCycleRoom, NotAnOpcode, BoundTooHigh}

-- the first address of an instruction on the bus, the registers, and the cycles beyond the base
abbrev pub leaves_at : ℕ → Registers → ℕ → Effect
leaves_at first r extra = record { registers = r; extra = extra; first = first }

-- if the mode has no address: 0000
abbrev pub leaves : Registers → ℕ → Effect
leaves r extra = leaves_at 0 r extra

-- the registers, the cycle count, and the last level of NMI
abbrev pub machine_of : Registers → ℕ → Bool → Machine
machine_of r cycles nmi = record { registers = r; cycles = cycles; nmi = nmi }

-- not refused: the step, or every step of the run, was made
abbrev pub number : Reason → ℕ
number Made = not_refused
number MemoryNotFull = memory_not_full
number NoCycleRoom = no_cycle_room
number NotAnOpcode = not_an_opcode
number BoundTooHigh = bound_too_high

abbrev pub is_made : Reason → Bool
is_made Made = true
is_made MemoryNotFull = false
is_made NoCycleRoom = false
is_made NotAnOpcode = false
is_made BoundTooHigh = false

-- what a step answers, its first address, and the machine that it leaves
abbrev pub stepped : Reason → ℕ → Machine → Stepped
stepped reason first s = record { reason = reason; first = first; machine = s }

-- in a refusal there is none: 0000
abbrev pub refused : Reason → Machine → Stepped
refused reason s = stepped reason 0 s

-- what a run answers, the steps that it made, and the machine that they leave
abbrev pub ended : Reason → ℕ → Machine → Ended
ended reason steps s = record { reason = reason; steps = steps; machine = s }
