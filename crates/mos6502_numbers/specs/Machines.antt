-- The machine and the levels of numbers, and the numbers of a machine.
use Rattle.std.specs.Prelude.{ℕ, Bool, not, cond}
use Rattle.registers.specs.StatusByte.{bit_at}
use Rattle.mos6502_numbers.specs.Packed.{packed, unpacked, unpacked_nmi}
use Rattle.manual.specs.declared.Lines.{Lines}
use Rattle.manual.specs.declared.Machine.{Machine}
use Rattle.manual.specs.Outcomes.{machine_of}

abbrev pub machine_from : ℕ → ℕ → Machine
machine_from registers cycles = machine_of (unpacked registers) cycles (unpacked_nmi registers)

-- bit 0 is set if NMI is low, bit 1 if IRQ is: 0 for idle lines
abbrev pub lines_from : ℕ → Lines
lines_from lines = record { irq = not (bit_at 1 lines); nmi = not (bit_at 0 lines) }

-- the two numbers are the machine's if a step was made, and otherwise as they were given
abbrev pub registers_after : Bool → Machine → ℕ → ℕ
registers_after made s registers = cond made (packed s.registers s.nmi) registers

abbrev pub cycles_after : Bool → Machine → ℕ → ℕ
cycles_after made s cycles = cond made s.cycles cycles
