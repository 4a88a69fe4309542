-- The status and its byte on the stack, there and back.
use Rattle.std.specs.Prelude.{◌≡◌, ℕ, ◌<◌, ◌≤◌, Bool, true, false, bit_or, refl}
use Rattle.std.proofs.Common.{arith}
use Rattle.laws.specs.Lemmas.Agree.{agree}
use Rattle.registers.specs.State.{status_of}
use Rattle.registers.specs.StatusByte.{bit, status_byte, pushed_byte, pulled_status}
use Rattle.registers.specs.declared.Status.{Status}

-- what is said of both values of a flag
Both : (Bool → Type 0) → Type 0
Both P = P true × P false

-- what is said of each of the 64 statuses
Every : (Status → Type 0) → Type 0
Every P =
    Both λ n. Both λ v. Both λ d. Both λ i. Both λ z. Both λ c.
    P (status_of n v d i z c)

each : (P : Bool → Type 0) → Both P → (flag : Bool) → P flag
unfolding Both
each P both true = both.0
each P both false = both.1

-- What is said of each of the 64 statuses holds of every status.
every : (P : Status → Type 0) → Every P → (p : Status) → P p
unfolding Every
every P h p =
    each _ (each _ (each _ (each _ (each _ (each _ h p.negative) p.overflow) p.decimal) p.disable) p.zero) p.carry

-- A status that is pushed, by an instruction or by a line, and pulled again is the same status.
pub pulled_pushed : (brk : Bool) (p : Status) → pulled_status (status_byte brk p) ≡ p
unfolding Both Every status_byte pulled_status
pulled_pushed true = every (λ p. pulled_status (status_byte true p) ≡ p) (search depth 8)
pulled_pushed false = every (λ p. pulled_status (status_byte false p) ≡ p) (search depth 8)

-- A byte that is pulled and pushed again is the same byte with bits 4 and 5 set.
pub pushed_pulled : (byte : ℕ) → byte < 256 → pushed_byte (pulled_status byte) ≡ bit_or byte 48
unfolding status_byte pulled_status
pushed_pulled = agree (λ byte. pushed_byte (pulled_status byte)) (λ byte. bit_or byte 48) 256 refl

-- a flag as a number
pub bit_most : (flag : Bool) → bit flag ≤ 1
bit_most true = omega arith
bit_most false = omega arith

-- A pushed status is a byte.
pub pushed_byte_lem : (brk : Bool) (p : Status) → status_byte brk p < 256
unfolding status_byte
pushed_byte_lem brk p =
    omega (arith, bit_most brk, bit_most p.negative, bit_most p.overflow, bit_most p.decimal, bit_most p.disable, bit_most p.zero, bit_most p.carry)
