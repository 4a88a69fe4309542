-- Shifts, rotates, increments and decrements of a byte (manual, chapter 10): the byte that comes out, and the carry.
use Rattle.std.specs.Prelude.{ℕ, ◌+◌, ◌*◌, ◌/◌, Bool}
use Rattle.registers.specs.declared.Registers.{Registers}
use Rattle.registers.specs.StatusByte.{bit, bit_at}
use Rattle.instruction.specs.declared.ModifyOperation.{ModifyOperation}
use Rattle.instruction.specs.declared.ModifyOperation.TheVariants.{ASL, DEC, INC, LSR, ROL, ROR}
use Rattle.manual.specs.Words.{low_byte}
use Rattle.registers.specs.State.{set_c, flags, up, down}
use Rattle.manual.specs.Flags.{shown}

-- a rotate takes the old carry in where a shift takes 0
abbrev pub modified : ModifyOperation → ℕ → Bool → ℕ
modified ASL b c = low_byte (b * 2)
modified DEC b c = down b
modified INC b c = up b
modified LSR b c = b / 2
modified ROL b c = low_byte (b * 2 + bit c)
modified ROR b c = b / 2 + bit c * 128

-- the bit shifted out
abbrev pub carry_out : ModifyOperation → ℕ → Bool → Bool
carry_out ASL b c = bit_at 7 b
carry_out DEC b c = c
carry_out INC b c = c
carry_out LSR b c = bit_at 0 b
carry_out ROL b c = bit_at 7 b
carry_out ROR b c = bit_at 0 b

-- the flags after a byte was modified
unfoldable pub modified_flags : ModifyOperation → ℕ → Registers → Registers
modified_flags k b r = shown (modified k b r.status.carry) (flags (set_c (carry_out k b r.status.carry)) r)
