-- One turn of the reader of a decimal number, for the loop of the code.
use Rattle.std.specs.Prelude.{ℕ, zero, suc, ◌+◌, ◌-◌, ◌*◌, ◌/◌, ◌<◌, ◌≤◌, ◌≡◌, List, Some, None}
use Rattle.std.proofs.Math.Path.{refl}
use Rattle.std.proofs.Common.{not-suc-le-zero, arith, lt-ltb, le-ltb, eq-eqb, ne_eqb}
use Rattle.text_reading.specs.declared.Reading.{Reading}
use Rattle.text_reading.specs.Numbers.{nowhere, digit_at, count_from}
use Rattle.text_reading.specs.Found.{found}
use Rattle.text_reading.specs.Lemmas.Found.{gone, got, somewhere, small_digit}

-- the largest number of 64 bits less a digit, without that digit's place
abbrev room : ℕ → ℕ
room d = (18446744073709551615 - d) / 10

module _ (s : List ℕ) (at v : ℕ) where
  pub count_full : (n : ℕ) → n ≤ 0 → count_from n s at v ≡ record { value = v; next = at }
  unfolding count_from
  count_full zero h = refl
  count_full (suc n) h = absurd (not-suc-le-zero h)

  pub count_end : (n : ℕ) → None ≡ found (digit_at 10 s at) → count_from n s at v ≡ record { value = v; next = at }
  unfolding count_from
  count_end zero e = refl
  count_end (suc n) e = rw (eq-eqb (digit_at 10 s at).next nowhere (gone _ e))

  module _ {d : Reading ℕ} (e : Some d ≡ found (digit_at 10 s at)) where
    there : d.next ≡ nowhere → ⊥
    there z = somewhere _ e (rw (got _ e) z)

    pub count_over : (n : ℕ) → 0 < n → (v * 10 + d.value < 18446744073709551616 → ⊥) → count_from n s at v ≡ record { value = 0; next = nowhere }
    unfolding count_from
    count_over zero h q = absurd (not-suc-le-zero h)
    count_over (suc n) h q =
        let high : room d.value < v = omega (arith, small_digit 10 s at (omega arith) e, q) in
        rw (got _ e, ne_eqb d.next nowhere there, lt-ltb (room d.value) v high)

    pub count_more : (n m w : ℕ) → m + 1 ≡ n → w ≡ v * 10 + d.value → w < 18446744073709551616
        → count_from n s at v ≡ count_from m s d.next w
    unfolding count_from
    count_more zero m w h k q = absurd (omega arith)
    count_more (suc n) m w h k q =
        let one : m ≡ n = omega arith in
        let low : v ≤ room d.value = omega (arith, small_digit 10 s at (omega arith) e) in
        rw (one, k, got _ e, ne_eqb d.next nowhere there, le-ltb (room d.value) v low)
