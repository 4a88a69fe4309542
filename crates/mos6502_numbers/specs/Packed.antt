-- The registers and the last level of NMI as one number, and those of a number.
use Rattle.std.specs.Prelude.{ℕ, ◌+◌, ◌*◌, ◌/◌, ◌%◌, ◌^◌, Bool, not}
use Rattle.registers.specs.declared.Registers.{Registers}
use Rattle.registers.specs.State.{registers_of}
use Rattle.registers.specs.StatusByte.{bit, bit_at, pushed_byte, pulled_status}

-- A, X, Y, S and the status as PHP pushes it, a byte each from the lowest on, then the counter, and bit 56 if the level was low: in a number
-- of registers alone it is high, as it is at first
unfoldable pub packed : Registers → Bool → ℕ
packed r nmi =
    r.accumulator
    + r.x * 2 ^ 8
    + r.y * 2 ^ 16
    + r.stack.0 * 2 ^ 24
    + pushed_byte r.status * 2 ^ 32
    + r.counter * 2 ^ 40
    + bit (not nmi) * 2 ^ 56

unfoldable pub unpacked : ℕ → Registers
unpacked n =
    registers_of (n % 256) (n / 2 ^ 8 % 256) (n / 2 ^ 16 % 256) (n / 2 ^ 24 % 256) (n / 2 ^ 40 % 65536) (pulled_status (n / 2 ^ 32 % 256))

unfoldable pub unpacked_nmi : ℕ → Bool
unpacked_nmi n = not (bit_at 56 n)
