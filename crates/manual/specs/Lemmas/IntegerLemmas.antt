-- Lemmas for the theorems beside this file: tests and flags, and integers as differences of natural numbers, which `omega` reads.
use Rattle.std.specs.Prelude.{ℕ, zero, suc, ◌+◌, ◌-◌, ◌*◌, ◌/◌, ◌%◌, ◌≤◌, ◌<◌, min, ◌≡◌, refl, ◌↔◌, Bool, true, false, not, cond, leb, ℤ, pos, negsuc, neg_ℤ, ◌+ℤ◌, ◌-ℤ◌}
use Rattle.std.proofs.Common.{ap, arith, le-leb}
use Rattle.std.proofs.Math.Decide.{dec_le}
use Rattle.std.proofs.lemmas.Bool.{lt-leb}
use Rattle.std.proofs.Math.IntN.{sub_ℕ}
use Rattle.registers.specs.StatusByte.{bit}
use Rattle.manual.specs.Words.{signed}

-- what holds at either answer of a test holds of the test (ltb a b is leb (suc a) b)
pub by_test : (P : Bool → Type 0) (a b : ℕ) → (a ≤ b → P true) → (b < a → P false) → P (leb a b)
by_test P a b f g = go (dec_le a b)
  where
    go : Dec (a ≤ b) → P (leb a b)
    go (yes h) = rw (le-leb a b h) (f h)
    go (no n) = let h : b < a = omega arith in rw (lt-leb a b h) (g h)

-- a flag that proves P if it is set, and refutes it if it is clear, is set exactly if P
pub flag_iff : {P : Type 0} (t : Bool) → (t ≡ true → P) → (t ≡ false → ¬ P) → t ≡ true ↔ P
flag_iff true f g = (f, λ p. refl)
flag_iff false f g = (f, λ p. absurd (g refl p))

-- a flag and its opposite, as numbers
pub bit_not : (t : Bool) → bit t + bit (not t) ≡ 1
bit_not true = refl
bit_not false = refl

-- a test as a number: suc b - a is 0 exactly if b is below a
pub bit_test : (a b : ℕ) → bit (leb a b) ≡ min 1 (suc b - a)
bit_test a b = by_test (λ t. bit t ≡ min 1 (suc b - a)) a b (λ h. omega arith) (λ h. omega arith)

-- z is x - y
abbrev IsDifference : ℤ → ℕ → ℕ → Type 0
IsDifference (pos n) x y = x ≡ y + n
IsDifference (negsuc n) x y = x + suc n ≡ y

pub record Difference (z : ℤ) (x y : ℕ) : Type 0 where
  pub is : IsDifference z x y

-- the same integer as another difference
moved : {z : ℤ} {x y u v : ℕ} → Difference z x y → x + v ≡ u + y → Difference z u v
moved {z = pos n} d e = omega arith
moved {z = negsuc n} d e = omega arith

-- two integers with one difference are equal
pub same : {z w : ℤ} {x y u v : ℕ} → Difference z x y → Difference w u v → x + v ≡ u + y → z ≡ w
same {z = pos n} {w = pos k} d e h = ap pos (omega arith)
same {z = pos n} {w = negsuc k} d e h = absurd (omega arith)
same {z = negsuc n} {w = pos k} d e h = absurd (omega arith)
same {z = negsuc n} {w = negsuc k} d e h = ap negsuc (omega arith)

-- a natural number takes nothing away
pub natural : (n : ℕ) → Difference (pos n) n 0
natural n = omega arith

-- the library's x - y
difference : (x y : ℕ) → Difference (sub_ℕ x y) x y
difference x y =
    by_test (λ t. Difference (cond t (negsuc (y - suc x)) (pos (x - y))) x y) (suc x) y
    (λ h. omega arith) (λ h. omega arith)

-- differences add up part by part
pub sum : {z w : ℤ} {x y u v : ℕ} → Difference z x y → Difference w u v → Difference (z +ℤ w) (x + u) (y + v)
sum {z = pos n} {w = pos k} d e = omega arith
sum {z = pos n} {w = negsuc k} d e = moved (difference n (suc k)) (omega arith)
sum {z = negsuc n} {w = pos k} d e = moved (difference k (suc n)) (omega arith)
sum {z = negsuc n} {w = negsuc k} d e = omega arith

-- minus a difference is the difference the other way round
pub negated : {z : ℤ} {x y : ℕ} → Difference z x y → Difference (neg_ℤ z) y x
negated {z = pos zero} d = omega arith
negated {z = pos (suc n)} d = omega arith
negated {z = negsuc n} d = omega arith

-- a byte from 128 on is, as a signed number, 256 less
pub of_byte : (b : ℕ) → b < 256 → Difference (signed b) b (256 * (b / 128))
unfolding signed
of_byte b h =
    by_test (λ t. Difference (cond t (pos b) (pos b -ℤ pos 256)) b (256 * (b / 128))) (suc b) 128
    (λ l. omega arith) (λ l. moved (difference b 256) (omega arith))

-- a byte that is x - y modulo 256 is x - y as a signed number, if that is from minus 128 to 127
pub signed_byte :
    (b : ℕ) {z : ℤ} {x y : ℕ} → b < 256 → (b + y) % 256 ≡ x % 256 → Difference z x y → (y ≤ x + 128) × (x ≤ y + 127) → signed b ≡ z
signed_byte b h e d range = same (of_byte b h) d (omega arith)
