-- The registers of a number that was packed, and its level of NMI, are those that it was packed from.
use Rattle.std.specs.Prelude.{ℕ, ◌+◌, ◌*◌, ◌/◌, ◌%◌, ◌^◌, ◌≤◌, ◌<◌, ◌≡◌, refl, Bool, false, eqb}
use Rattle.std.proofs.Math.Path.{ap}
use Rattle.std.proofs.Common.{◌∙◌, arith}
use Rattle.std.proofs.Math.Bool.{true, not}
use Rattle.registers.specs.declared.Registers.{Registers}
use Rattle.registers.specs.declared.Status.{Status}
use Rattle.registers.specs.State.{registers_of}
use Rattle.registers.specs.InRange.{InRange}
use Rattle.registers.specs.StatusByte.{bit, pushed_byte}
use Rattle.registers.specs.Theorems.RoundTrip.{pulled_pushed, bit_most, pushed_byte_lem}
use Rattle.mos6502_numbers.specs.Packed.{packed, unpacked, unpacked_nmi}

module _ (a x y s p c b : ℕ) (a8 : a < 256) (x8 : x < 256) (y8 : y < 256) (s8 : s < 256) (p8 : p < 256) (c16 : c < 65536) (b1 : b ≤ 1) where
  abbrev n : ℕ
  n = a + x * 2 ^ 8 + y * 2 ^ 16 + s * 2 ^ 24 + p * 2 ^ 32 + c * 2 ^ 40 + b * 2 ^ 56

  part_a : n % 256 ≡ a
  part_a = omega arith

  part_x : n / 2 ^ 8 % 256 ≡ x
  part_x = omega arith

  part_y : n / 2 ^ 16 % 256 ≡ y
  part_y = omega arith

  part_s : n / 2 ^ 24 % 256 ≡ s
  part_s = omega arith

  part_p : n / 2 ^ 32 % 256 ≡ p
  part_p = omega arith

  part_c : n / 2 ^ 40 % 65536 ≡ c
  part_c = omega arith

  part_b : n / 2 ^ 56 % 2 ≡ b
  part_b = omega arith

set_bit : (nmi : Bool) → not (eqb (bit (not nmi)) 1) ≡ nmi
set_bit true = refl
set_bit false = refl

module _ (r : Registers) (nmi : Bool) (h : InRange r) where
  abbrev p8 : pushed_byte r.status < 256
  p8 = pushed_byte_lem true r.status

  abbrev b1 : bit (not nmi) ≤ 1
  b1 = bit_most (not nmi)

  pub unpacked_packed : unpacked (packed r nmi) ≡ r
  unfolding unpacked packed
  unpacked_packed =
      rw (
        part_a _ _ _ _ _ _ _ h.accumulator h.x h.y h.stack p8 h.counter b1,
        part_x _ _ _ _ _ _ _ h.accumulator h.x h.y h.stack p8 h.counter b1,
        part_y _ _ _ _ _ _ _ h.accumulator h.x h.y h.stack p8 h.counter b1,
        part_s _ _ _ _ _ _ _ h.accumulator h.x h.y h.stack p8 h.counter b1,
        part_p _ _ _ _ _ _ _ h.accumulator h.x h.y h.stack p8 h.counter b1,
        part_c _ _ _ _ _ _ _ h.accumulator h.x h.y h.stack p8 h.counter b1,
      )
      (ap (λ (p : Status). registers_of r.accumulator r.x r.y r.stack.0 r.counter p) (pulled_pushed true r.status))

  pub level_packed : unpacked_nmi (packed r nmi) ≡ nmi
  unfolding unpacked_nmi packed
  level_packed =
      ap (λ (b : ℕ). not (eqb b 1)) (part_b _ _ _ _ _ _ _ h.accumulator h.x h.y h.stack p8 h.counter b1) ∙ set_bit nmi
