-- One turn of each loop over a text.
use Rattle.std.specs.Prelude.{◌≡◌, ℕ, zero, suc, ◌+◌, ◌-◌, ◌*◌, ◌%◌, ◌<◌, ◌≤◌, List, [], ◌∷◌, ◌++◌, length, drop, ◌≢◌}
use Rattle.std.proofs.Common.{add-zero, ap, arith}
use Rattle.text_reading.specs.Numbers.{nowhere, byte_at}
use Rattle.tape_records.specs.Records.{bytes_of}
use Rattle.tape_records.specs.Inner.Reading.{summed, values_at}
use Rattle.tape_records.specs.Lemmas.Places.{bytes_none, bytes_more, summed_more}

module _ (s : List ℕ) (i : ℕ) where
  module _ (fits : length s ≤ nowhere) (v n : ℕ) where
    pub sum_end : n ≤ 0 → v < 65536 → summed v i (bytes_of n (drop i s)) ≡ record { value = v; next = i }
    sum_end h small =
        let none_left : n ≡ 0 = omega arith in
        let same : v % 65536 ≡ v = omega arith in
        rw (none_left, add-zero v, same, add-zero i)

    module _ (h : 0 < n) where
      pub sum_none : i + 2 < nowhere → (byte_at s i).next ≡ nowhere → summed v i (bytes_of n (drop i s)) ≡ record { value = 0; next = nowhere }
      sum_none l e = rw (bytes_none s fits i n h l e)

      pub sum_more : ((byte_at s i).next ≢ nowhere)
          → (summed v i (bytes_of n (drop i s)) ≡ summed ((v + (byte_at s i).value) % 65536) (i + 2) (bytes_of (n - 1) (drop (i + 2) s)))
          × ((byte_at s i).next ≡ i + 2)
      sum_more e =
          let turn = bytes_more s fits i n h e in
          (rw turn.0 (summed_more v i (byte_at s i).value (bytes_of (n - 1) (drop (i + 2) s))), turn.1)

-- one value more of a text's first ones
pub values_last : (n : ℕ) (s : List ℕ) (i at : ℕ) → at ≡ i + 2 * n → values_at (suc n) s i ≡ values_at n s i ++ (byte_at s at).value ∷ []
values_last zero s i at e = let here : i ≡ at = omega arith in rw here
values_last (suc n) s i at e = ap (λ (l : List ℕ). (byte_at s i).value ∷ l) (values_last n s (i + 2) at (omega arith))
