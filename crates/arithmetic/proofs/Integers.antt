-- Signed numbers in 32 bits: a byte as a signed number, the sum behind the overflow flag, and the sum behind a branch. Each is
-- known as a difference of natural numbers, which `omega` reads.
use Rattle.std.proofs.Common.{◌≡◌, ℕ, ◌+◌, ◌-◌, ◌*◌, ◌/◌, ◌%◌, ◌^◌, ◌<◌, ◌≤◌, T, ℤ, pos, negsuc, ◌+ℤ◌, ◌-ℤ◌, nat_abs, arith, to_z-of_z, w32, Fits, SFits, to_z, of_z}
use lib.Signed.{non_neg}
use Rattle.manual.specs.Words.{signed, around}
use Rattle.manual.specs.Lemmas.IntegerLemmas.{Difference, natural, sum, negated, of_byte, same}

-- a number that is written to 32 bits and read again
abbrev held : ℤ → ℤ
held z = to_z w32 (of_z w32 z)

abbrev Small : ℕ → ℕ → Type 0
Small x y = (x < 2 ^ 31) × (y < 2 ^ 31)

-- a difference of two small numbers fits, and is read as it was written
fits : {z : ℤ} {x y : ℕ} → Difference z x y → Small x y → SFits w32 z
fits {z = pos n} d small = record { sfits = omega arith }
fits {z = negsuc n} d small = record { sfits = omega arith }

kept : {z : ℤ} {x y : ℕ} → Difference z x y → Small x y → Difference (held z) x y
kept d small = rw (to_z-of_z (fits d small)) d

-- ---- a byte

natural_read : (n : ℕ) → n < 2 ^ 31 → Difference (to_z w32 n) n 0
natural_read n h = kept (natural n) (omega arith)

byte_read : (b : ℕ) {z : ℤ} → b < 256 → z ≡ signed b → Difference (held z) b (256 * (b / 128))
byte_read b h e = rw e (kept (of_byte b h) (omega arith))

module _ (b t : ℕ) (byte : b < 256) (turn : t ≡ (b + 128) % 256) where
  lowered : Difference (to_z w32 t -ℤ pos 128) (t + 0) (0 + 128)
  lowered = sum (natural_read t (omega arith)) (negated (natural 128))

  pub turned_fits : SFits w32 (to_z w32 t -ℤ pos 128)
  turned_fits = fits lowered (omega arith)

  pub turned : held (to_z w32 t -ℤ pos 128) ≡ signed b
  turned = same (kept lowered (omega arith)) (of_byte b byte) (omega arith)

-- ---- two bytes and a flag

module _ {a m : ℕ} {x y : ℤ} (a_byte : a < 256) (m-byte : m < 256) (x-signed : x ≡ signed a) (y-signed : y ≡ signed m) where
  added : Difference (held x +ℤ held y) (a + m) (256 * (a / 128) + 256 * (m / 128))
  added = sum (byte_read a a_byte x-signed) (byte_read m m-byte y-signed)

  pub sum_fits : SFits w32 (held x +ℤ held y)
  sum_fits = fits added (omega arith)

  module _ {k : ℕ} (flag : k ≤ 1) where
    added_flag : Difference (held (held x +ℤ held y) +ℤ to_z w32 k) (a + m + k) (256 * (a / 128) + 256 * (m / 128) + 0)
    added_flag = sum (kept added (omega arith)) (natural_read k (omega arith))

    pub sum_and_flag_fits : SFits w32 (held (held x +ℤ held y) +ℤ to_z w32 k)
    sum_and_flag_fits = fits added_flag (omega arith)

    pub sum_and_flag : held (held (held x +ℤ held y) +ℤ to_z w32 k) ≡ signed a +ℤ signed m +ℤ pos k
    sum_and_flag = same (kept added_flag (omega arith)) (sum (sum (of_byte a a_byte) (of_byte m m-byte)) (natural k)) (omega arith)

-- ---- an address and a byte

-- 65536 more is the same address
around_lifted : {z : ℤ} {x y : ℕ} (n : ℕ) → Difference z x y → x + 65536 ≡ y + n → n % 65536 ≡ around z
unfolding around
around_lifted {z = pos k} n d e = omega arith
around_lifted {z = negsuc k} n d e = omega arith

module _ (p : ℕ) {m : ℕ} {z : ℤ} (p-address : p < 65536) (m-byte : m < 256) (z-signed : z ≡ signed m) where
  reached : Difference (to_z w32 p +ℤ held z) (p + m) (0 + 256 * (m / 128))
  reached = sum (natural_read p (omega arith)) (byte_read m m-byte z-signed)

  pub reached_fits : SFits w32 (to_z w32 p +ℤ held z)
  reached_fits = fits reached (omega arith)

  lifted : Difference (held (to_z w32 p +ℤ held z) +ℤ pos 65536) (p + m + 65536) (0 + 256 * (m / 128) + 0)
  lifted = sum (kept reached (omega arith)) (natural 65536)

  pub lifted_fits : SFits w32 (held (to_z w32 p +ℤ held z) +ℤ pos 65536)
  lifted_fits = fits lifted (omega arith)

  abbrev number : ℕ
  number = p + m + 65536 - 256 * (m / 128)

  lifted_number : held (held (to_z w32 p +ℤ held z) +ℤ pos 65536) ≡ pos number
  lifted_number = same (kept lifted (omega arith)) (natural number) (omega arith)

  pub lifted_natural :
      T (non_neg (held (held (to_z w32 p +ℤ held z) +ℤ pos 65536)))
      × Fits w32 (nat_abs (held (held (to_z w32 p +ℤ held z) +ℤ pos 65536)))
  lifted_natural = rw lifted_number (tt, record { fits = omega arith })

  pub lifted_around : nat_abs (held (held (to_z w32 p +ℤ held z) +ℤ pos 65536)) % 65536 ≡ around (pos p +ℤ signed m)
  lifted_around = rw lifted_number (around_lifted number (sum (natural p) (of_byte m m-byte)) (omega arith))
