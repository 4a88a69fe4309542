-- The flags of a result (manual, chapter 3).
use Rattle.std.specs.Prelude.{ℕ, eqb}
use Rattle.registers.specs.declared.Registers.{Registers}
use Rattle.registers.specs.StatusByte.{bit_at}
use Rattle.registers.specs.State.{set_a, set_x, set_y, set_nz, flags}

-- N is bit 7 of a result, and Z is set if it is 0
unfoldable pub shown : ℕ → Registers → Registers
shown b r = flags (set_nz (bit_at 7 b) (eqb b 0)) r

-- a register takes a value, and N and Z show it
abbrev pub load_a : ℕ → Registers → Registers
load_a b r = shown b (set_a b r)

abbrev pub load_x : ℕ → Registers → Registers
load_x b r = shown b (set_x b r)

abbrev pub load_y : ℕ → Registers → Registers
load_y b r = shown b (set_y b r)
