-- Laws of written text and of numerals, for the proofs of the writers and of those who call them.
use Rattle.std.specs.Prelude.{◌≡◌, refl, Bool, true, false, List, [], ◌∷◌, ◌++◌, ℕ, zero, suc, ◌+◌, ◌*◌, ◌/◌, ◌%◌, ◌≤◌, ◌<◌, ◌^◌, min, ltb, length, take, drop, set, get_or}
use Rattle.std.proofs.Common.{sym, ◌∙◌, add-zero, add-suc, suc-add, add_assoc, pow-suc, add-one, arith, length-append, take-suc, take_all, lt-ltb, le-ltb, ltb-true, ltb-false}
use Rattle.std.specs.List.{flat_map}
use Rattle.std.proofs.lemmas.List.{flat_map_more}
use Rattle.std.proofs.lemmas.List.Edits.{sets, sets-eq}
use Rattle.std.proofs.Math.Seq.{length-sets, set_out, take-append_seam}
use Rattle.text_writing.specs.Numerals.{digit, digits, decimal, hex2}
use Rattle.text_writing.specs.Written.{most, Wrote}

sets_sets : (l : List ℕ) (i : ℕ) (s t : List ℕ) → sets (sets l i s) (i + length s) t ≡ sets l i (s ++ t)
sets_sets l i [] t = rw add-zero
sets_sets l i (a ∷ s) t = rw (add-suc, ← suc-add) (sets_sets (set l i a) (suc i) s t)

sets_out : (l : List ℕ) (i : ℕ) (t : List ℕ) → length l ≤ i → sets l i t ≡ l
sets_out l i [] h = refl
sets_out l i (a ∷ t) h = rw (set_out l i a h) (sets_out l (suc i) t (omega arith))

-- the largest `usize` lies past the end of every buffer, as does every place that stopped there
stopped_by : (b : Bool) (l : List ℕ) (i : ℕ) (t : List ℕ) → ltb i most ≡ b → length l ≤ most → sets l (min i most) t ≡ sets l i t
stopped_by true l i t e f = let h : min i most ≡ i = omega (arith, ltb-true i most e) in rw h
stopped_by false l i t e f =
    let h : min i most ≡ most = omega (arith, ltb-false i most e) in
    rw h (sets_out l most t f ∙ sym (sets_out l i t (omega (arith, ltb-false i most e))))

stopped : (l : List ℕ) (i : ℕ) (t : List ℕ) → length l ≤ most → sets l (min i most) t ≡ sets l i t
stopped l i t f = stopped_by (ltb i most) l i t refl f

min_min : (a b : ℕ) → min (min a most + b) most ≡ min (a + b) most
min_min a b = omega arith

-- One text after another is the two as one.
pub then : {l m k s t : List ℕ} {i j n : ℕ} → Wrote l i s m j → Wrote m j t k n → Wrote l i (s ++ t) k n
then {l} {m} {k} {s} {t} {i} {j} {n} p q =
    record {
      fits = p.fits;
      bytes = q.bytes ∙ rw (p.bytes, p.ends) (stopped (sets l i s) (i + length s) t (rw (length-sets l i s) p.fits) ∙ sets_sets l i s t);
      ends = q.ends ∙ rw (p.ends, length-append, ← add_assoc) (min_min (i + length s) (length t));
    }

-- Where a short text ends.
pub within : {l t l' : List ℕ} {at next n : ℕ} → Wrote l at t l' next → length t ≤ n → next ≤ at + n
within w h = omega (arith, w.ends)

pub nothing : {l : List ℕ} {n : ℕ} → length l ≤ most → n ≤ most → Wrote l n [] l n
nothing {l} {n} f h = record { fits = f; bytes = refl; ends = omega arith }

-- One more character of a text that is written one by one, and the whole of it.
pub more : (t : List ℕ) (i : ℕ) {l m k : List ℕ} {at n j : ℕ} → i < length t
    → Wrote l at (take i t) m n → Wrote m n (get_or t i 0 ∷ []) k j → Wrote l at (take (i + 1) t) k j
more t i h p q = rw (add-one i, take-suc t i 0 h) (then p q)

-- One more byte of those that are written one by one.
pub hexes_more : (bs : List ℕ) (i : ℕ) → i < length bs → flat_map hex2 (take (i + 1) bs) ≡ flat_map hex2 (take i bs) ++ hex2 (get_or bs i 0)
hexes_more bs i h = rw (add-one i, take-suc bs i 0 h) (sym (flat_map_more hex2 [] (take i bs) (get_or bs i 0)))

pub whole : (t : List ℕ) (i : ℕ) {l m : List ℕ} {at n : ℕ} → length t ≤ i → Wrote l at (take i t) m n → Wrote l at t m n
whole t i h p = rw (take_all i t h) at p

-- A text at the start of a buffer that holds it is read back.
pub read_back : {l t l' : List ℕ} {n : ℕ} → Wrote l 0 t l' n → length t ≤ length l → (n ≡ length t) × (take n l' ≡ t)
read_back {l} {t} {l'} {n} w h =
    let size : n ≡ length t = omega (arith, w.ends, w.fits) in
    (size, rw (size, w.bytes, sets-eq t l 0 (omega arith)) (take-append_seam t (drop (0 + length t) l)))

-- A bound that is high enough does not matter.
enough : (j k n : ℕ) → n ≤ j → n ≤ k → digits j n ≡ digits k n
unfolding digits
enough zero zero n p q = refl
enough zero (suc k) n p q = rw (lt-ltb n 10 (omega arith))
enough (suc j) zero n p q = rw (lt-ltb n 10 (omega arith))
enough (suc j) (suc k) n p q = rw (enough j k (n / 10) (omega arith) (omega arith))

pub decimal_one : (n : ℕ) → n < 10 → decimal n ≡ digit n ∷ []
unfolding decimal digits
decimal_one n h = enough n (suc n) n (omega arith) (omega arith) ∙ rw (lt-ltb n 10 h)

pub decimal_more : (n : ℕ) → 10 ≤ n → decimal n ≡ decimal (n / 10) ++ digit (n % 10) ∷ []
unfolding decimal digits
decimal_more n h =
    enough n (suc n) n (omega arith) (omega arith)
    ∙ rw (le-ltb n 10 h, enough n (n / 10) (n / 10) (omega arith) (omega arith))

longer : (b : Bool) (j n : ℕ) → ltb n 10 ≡ b → length (decimal (n / 10)) ≤ j → length (decimal n) ≤ suc j
longer true j n e h = rw (decimal_one n (ltb-true n 10 e)) (omega arith)
longer false j n e h = rw (decimal_more n (ltb-false n 10 e), length-append (decimal (n / 10)) (digit (n % 10) ∷ [])) (omega arith)

-- A number below 10 ^ k has at most k digits.
pub decimal_length : (k n : ℕ) → n < 10 ^ suc k → length (decimal n) ≤ suc k
decimal_length zero n h = rw (decimal_one n h) (omega arith)
decimal_length (suc k) n h =
    let g : n < 10 ^ suc k * 10 = rw (pow-suc 10 (suc k)) at h in
    longer (ltb n 10) (suc k) n refl (decimal_length k (n / 10) (omega arith))
