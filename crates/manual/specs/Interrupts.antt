-- Interrupts (manual, chapter 9): the way into one, which BRK and the two lines share, and when a line is due.
use Rattle.std.specs.Prelude.{ℕ, ◌+◌, Bool, true, not, cond, ◌&&◌, Option, Some, None}
use Rattle.registers.specs.declared.Registers.{Registers}
use Rattle.registers.specs.State.{set_pc, set_i, flags}
use Rattle.registers.specs.StatusByte.{served_byte}
use Rattle.manual.specs.declared.Lines.{Lines}
use Rattle.manual.specs.declared.Machine.{Machine}
use Rattle.manual.specs.Micro.{Micro, done, ◌>>=◌}
use Rattle.manual.specs.Addressing.{word}
use Rattle.manual.specs.Stack.{push, push_address}

-- where NMI leads, and where IRQ and BRK do
abbrev pub nmi_vector : ℕ
nmi_vector = 0xFFFA

abbrev pub irq_vector : ℕ
irq_vector = 0xFFFE

-- the cycles of a line that is served
abbrev pub serving_cycles : ℕ
serving_cycles = 7

-- a return address and a status byte are pushed, I is set, D is kept, and the counter goes through a vector
unfoldable pub enter : ℕ → ℕ → ℕ → Registers → Micro Registers
enter back byte vector r = do
  r₁ ← push_address back r
  r₂ ← push byte r₁
  goal ← word vector (vector + 1)
  done (set_pc goal (flags (set_i true) r₂))

-- a line that is served returns to the instruction that was not yet begun
unfoldable pub served : ℕ → Registers → Micro Registers
served vector r = enter r.counter (served_byte r.status) vector r

-- no line is low
abbrev pub idle : Lines
idle = record { irq = true; nmi = true }

-- NMI falls if its last level was high and the present one is low; a low IRQ calls while I is clear
abbrev pub falls : Lines → Machine → Bool
falls lines s = s.nmi && not lines.nmi

abbrev pub calls : Lines → Machine → Bool
calls lines s = not lines.irq && not s.registers.status.disable

-- what is due before an opcode: NMI comes first
abbrev pub due : Lines → Machine → Option ℕ
due lines s = cond (falls lines s) (Some nmi_vector) (cond (calls lines s) (Some irq_vector) None)
