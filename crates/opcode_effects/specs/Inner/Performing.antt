-- What an opcode does to the registers and the memory, with all the cycles that it takes.
use Rattle.std.specs.Prelude.{ℕ, ◌+◌, ◌-◌, Option, Some, None}
use Rattle.registers.specs.declared.Registers.{Registers}
use Rattle.registers.specs.StatusByte.{bit}
use Rattle.instruction.specs.declared.Entry.{Entry}
use Rattle.instruction.specs.declared.Instruction.TheVariants.{Read}
use Rattle.instruction.specs.declared.AddressingMode.{AddressingMode}
use Rattle.instruction.specs.declared.ReadOperation.{ReadOperation}
use Rattle.instruction.specs.declared.ReadOperation.TheVariants.{ADC, SBC}
use Rattle.instruction.specs.declared.Instruction.{Instruction}
use Rattle.manual.specs.declared.Effect.{Effect}
use Rattle.manual.specs.Micro.{Micro, done, ◌>>=◌, fetch}
use Rattle.manual.specs.Addressing.{target}
use Rattle.manual.specs.Instructions.{applied, advanced, perform}
use Rattle.opcode_effects.specs.declared.Performed.{Performed}
use Rattle.opcode_effects.specs.declared.Pending.{Pending}
use Rattle.opcode_effects.specs.declared.Row.{Row}

-- a row of the table
abbrev pub entry_of : Instruction → AddressingMode → ℕ → Entry
entry_of operation mode cycles = record { instruction = operation; mode = mode; cycles = cycles }

abbrev pub read_entry : ReadOperation → AddressingMode → ℕ → Entry
read_entry k mode cycles = entry_of (Read k) mode cycles

-- what a step of so many cycles takes off the clock of a run
abbrev pub ticks_of : ℕ → ℕ
ticks_of cycles = 268435456 - cycles

-- its cycles and the extra ones
abbrev pub performed_from : ℕ → Effect → Performed
performed_from cycles f = record { registers = f.registers; ticks = ticks_of (cycles + f.extra); first = f.first }

abbrev pub performed : Entry → Registers → Micro (Option Performed)
performed e r = do
  effect ← perform e.instruction e.mode r
  done (Some (performed_from e.cycles effect))

unfoldable pub dispatched : Option Entry → Registers → Micro (Option Performed)
dispatched (Some e) r = performed e r
dispatched None r = done None

-- an operation on the byte that was read
abbrev pub finished_by : ReadOperation → Pending → Option Performed
finished_by k p = Some (record { registers = applied k p.value p.registers; ticks = p.ticks; first = p.first })

-- the byte that an operation reads, and the registers past it
unfoldable pub fetching : AddressingMode → ℕ → Registers → Micro Pending
fetching mode cycles r = do
  t ← target mode r
  b ← fetch t.address
  done (record { registers = advanced mode r; ticks = ticks_of (cycles + bit t.crossed); first = t.first; value = b })

-- what a row comes to
abbrev pub finished : Row → Option Performed
finished (Row.Whole p) = Some p
finished (Row.Adding p) = finished_by ADC p
finished (Row.Subtracting p) = finished_by SBC p
finished Row.NotAnOpcode = None
