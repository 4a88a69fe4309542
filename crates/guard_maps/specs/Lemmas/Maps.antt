-- A map of zeros has no address, and an address that is put into a map is in it, while nothing else changes.
use Rattle.std.specs.Prelude.{ℕ, zero, suc, ◌+◌, ◌*◌, ◌/◌, ◌%◌, ◌^◌, ◌<◌, ◌≡◌, refl, Bool, true, false, cond, ◌||◌, List, eqb, length, get_or, set, replicate}
use Rattle.std.proofs.Common.{ap, sym, ◌∙◌, arith, eq-eqb, ne_eqb, get_or-set_same, get_or-set_other}
use Rattle.std.proofs.Math.Path.{fun_ext}
use Rattle.std.proofs.Math.Nat.{zero-div}
use Rattle.std.proofs.Math.Decide.{ℕ_discrete}
use Rattle.std.specs.Int.Bits.{bit_or}
use Rattle.std.proofs.lemmas.Nat.{or_shr, or_mod}
use Rattle.laws.specs.Lemmas.Agree.{agree}
use Rattle.guard_maps.specs.Maps.{in_map, nowhere}

-- a byte of 0 has none of its addresses
pub none_in : (map : List ℕ) (a : ℕ) → get_or map (a / 8) 0 ≡ 0 → in_map map a ≡ false
none_in map a e = rw (e, zero-div (2 ^ (a % 8)))

all_zero : (n i : ℕ) → ◌≡◌ {A = ℕ} (get_or (replicate n 0) i 0) 0
all_zero zero i = refl
all_zero (suc n) zero = refl
all_zero (suc n) (suc i) = all_zero n i

pub empty_map : (map : List ℕ) (n : ℕ) → map ≡ replicate n 0 → in_map map ≡ nowhere
empty_map map n e = fun_ext (λ a. none_in map a (ap (λ (l : List ℕ). get_or l (a / 8) 0) e ∙ all_zero n (a / 8)))

-- the byte that has one bit, as the code makes it
abbrev bit : ℕ → ℕ
bit k = 1 * 2 ^ k % 256

one_bit : (n : ℕ) → n < 64 → bit (n / 8) / 2 ^ (n % 8) % 2 ≡ cond (eqb (n % 8) (n / 8)) 1 0
one_bit = agree (λ n. bit (n / 8) / 2 ^ (n % 8) % 2) (λ n. cond (eqb (n % 8) (n / 8)) 1 0) 64 refl

bit_at : (k j : ℕ) → k < 8 → j < 8 → bit k / 2 ^ j % 2 ≡ cond (eqb j k) 1 0
bit_at k j hk hj =
    let high : (8 * k + j) / 8 ≡ k = omega arith in
    let low : (8 * k + j) % 8 ≡ j = omega arith in
    rw (high, low) at (one_bit (8 * k + j) (omega arith))

or_bits : (x : ℕ) → x < 2 → (t : Bool) → eqb (bit_or x (cond t 1 0)) 1 ≡ (eqb x 1 || t)
or_bits zero h true = refl
or_bits zero h false = refl
or_bits (suc zero) h true = refl
or_bits (suc zero) h false = refl
or_bits (suc (suc x)) h t = absurd (omega arith)

bit_or_lem : (b k j : ℕ) → k < 8 → j < 8 → eqb (bit_or b (bit k) / 2 ^ j % 2) 1 ≡ (eqb (b / 2 ^ j % 2) 1 || eqb j k)
bit_or_lem b k j hk hj =
    let below : b / 2 ^ j % 2 < 2 = omega arith in
    ap (λ x. eqb (x % 2) 1) (or_shr b (bit k) j)
    ∙ ap (λ x. eqb x 1) (or_mod (b / 2 ^ j) (bit k / 2 ^ j) 1 ∙ ap (bit_or (b / 2 ^ j % 2)) (bit_at k j hk hj))
    ∙ or_bits (b / 2 ^ j % 2) below (eqb j k)

or_false : (t : Bool) → t ≡ (t || false)
or_false true = refl
or_false false = refl

module _ (map : List ℕ) (p a : ℕ) (h : p / 8 < length map) where
  abbrev after : List ℕ
  after = set map (p / 8) (bit_or (get_or map (p / 8) 0) (bit (p % 8)))

  same_bit : a / 8 ≡ p / 8 → Dec (a % 8 ≡ p % 8) → eqb (a % 8) (p % 8) ≡ eqb a p
  same_bit e (yes z) = let same : a ≡ p = omega (arith, e, z) in eq-eqb _ _ z ∙ sym (eq-eqb a p same)
  same_bit e (no f) = ne_eqb _ _ f ∙ sym (ne_eqb _ _ (λ z. f (ap (λ x. x % 8) z)))

  by_byte : Dec (a / 8 ≡ p / 8) → in_map after a ≡ (in_map map a || eqb a p)
  by_byte (yes e) =
      let here : get_or after (a / 8) 0 ≡ bit_or (get_or map (a / 8) 0) (bit (p % 8)) = rw e (get_or-set_same map (p / 8) _ 0 h) in
      ap (λ x. eqb (x / 2 ^ (a % 8) % 2) 1) here
      ∙ bit_or_lem (get_or map (a / 8) 0) (p % 8) (a % 8) (omega arith) (omega arith)
      ∙ ap (λ t. in_map map a || t) (same_bit e (ℕ_discrete _ _))
  by_byte (no f) =
      ap (λ x. eqb (x / 2 ^ (a % 8) % 2) 1) (get_or-set_other map (p / 8) (a / 8) _ 0 f)
      ∙ or_false (in_map map a)
      ∙ ap (λ t. in_map map a || t) (sym (ne_eqb a p (λ z. f (ap (λ x. x / 8) z))))

  pub put_in_map : in_map after a ≡ (in_map map a || eqb a p)
  put_in_map = by_byte (ℕ_discrete _ _)

in_either : (t u : Bool) → u ≡ true → (t || u) ≡ true
in_either true u e = refl
in_either false u e = e

pub put_there : (map after : List ℕ) (p : ℕ) → ((a : ℕ) → in_map after a ≡ (in_map map a || eqb a p)) → in_map after p ≡ true
put_there map after p put = put p ∙ in_either (in_map map p) (eqb p p) (eq-eqb p p refl)
