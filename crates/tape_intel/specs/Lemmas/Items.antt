-- Laws of Items.antt.
use Rattle.std.specs.Prelude.{ℕ, ◌+◌, ◌/◌, ◌%◌, ◌≤◌, ◌≡◌, refl, Bool, true, false, cond, not, List, [], ◌∷◌, eqb, ltb, length, take, drop, Some, None}
use Rattle.std.proofs.Math.Path.{ap}
use Rattle.std.proofs.Common.{sym, ◌∙◌, arith, length-drop, take-append-drop, length-take-le, get_or-drop, drop-drop}
use Rattle.std.proofs.Math.Option.{Option, some}
use Rattle.laws.specs.Answers.{malformed_record, wrong_sum, past_the_end, no_end}
use Rattle.text_reading.specs.Numbers.{nowhere, byte_at}
use Rattle.text_reading.specs.declared.Reading.{Reading}
use Rattle.tape_records.specs.declared.Parts.{Parts}
use Rattle.tape_records.specs.Inner.Items.{Data, End, Bad}
use Rattle.tape_records.specs.Lemmas.Places.{byte_at_lem, next_byte, bytes_from_lem}
use Rattle.tape_records.specs.Records.{byte_of, record_of, count, address, sum, last, total, word, Bytes}
use Rattle.tape_records.specs.Inner.Reading.{found, parts_of}
use Rattle.tape_records.specs.Contents.{Stretch, stretch, finish, bad}
use Rattle.tape_records.specs.Lemmas.Whole.{record_bytes, record_length, record_small}
use Rattle.tape_records.specs.Theorems.Sums.{bytes_drop, total_append}
use Rattle.tape_records.specs.Lemmas.Items.{none_found, one_found, told_cond}
use Rattle.tape_records.specs.Inner.Items.{told}
use Rattle.tape_intel.specs.IntelHex.{type, right_sum, data_item, end_item, judge, hex_item}
use Rattle.tape_intel.specs.Inner.Items.{sum_right, told_data, told_end, told_by}

told_data_item : (empty sums past room : Bool) (r : Stretch)
    → told (cond empty (bad malformed_record) (cond (not sums) (bad wrong_sum) (cond past (bad past_the_end) (cond room (stretch r) (bad no_end)))))
    ≡ cond empty (Bad malformed_record) (cond (not sums) (Bad wrong_sum) (cond past (Bad past_the_end) (cond room (Data r.first (length r.bytes)) (Bad no_end))))
told_data_item true b c d r = refl
told_data_item false false c d r = refl
told_data_item false true true d r = refl
told_data_item false true false true r = refl
told_data_item false true false false r = refl

told_end_item : (sums empty origin : Bool)
    → told (cond (not sums) (bad wrong_sum) (cond empty (cond origin finish (bad malformed_record)) (bad malformed_record)))
    ≡ cond (not sums) (Bad wrong_sum) (cond empty (cond origin End (Bad malformed_record)) (Bad malformed_record))
told_end_item false b c = refl
told_end_item true false c = refl
told_end_item true true true = refl
told_end_item true true false = refl

-- the sum of all bytes, of which the code has that of all but two, and these two as one number
two_total : (t : List ℕ) → length t ≡ 2 → Bytes t → word t / 256 + word t % 256 ≡ total t
two_total [] h s = absurd (omega arith)
two_total (x ∷ []) h s = absurd (omega arith)
two_total (x ∷ y ∷ []) h s = let y< = s.1.0 in omega arith
two_total (x ∷ y ∷ z ∷ t) h s = absurd (omega arith)

module _ (bs : List ℕ) (whole : length bs ≡ count bs + 5) (small : Bytes bs) where
  all_bytes : right_sum bs ≡ sum_right (parts_of bs)
  all_bytes =
      let parts : total bs ≡ total (take (count bs + 3) bs) + total (drop (count bs + 3) bs) =
      ap total (sym (take-append-drop (count bs + 3) bs)) ∙ total_append (take (count bs + 3) bs) (drop (count bs + 3) bs) in
      let tail = two_total (drop (count bs + 3) bs) (simp length-drop (omega arith)) (bytes_drop (count bs + 3) bs small) in
      let same : total bs % 256 ≡ (sum bs % 256 + last bs / 256 + last bs % 256) % 256 = omega arith in
      ap (λ (n : ℕ). eqb n 0) same

  data_length : length (take (count bs) (drop 4 bs)) ≡ count bs
  data_length = length-take-le (count bs) (drop 4 bs) (simp length-drop (omega arith))

  data_by_parts : (before : ℕ) → told (data_item before bs) ≡ told_data before (parts_of bs)
  data_by_parts before =
      told_data_item (eqb (count bs) 0) (right_sum bs) (ltb 65536 (address bs + count bs)) (ltb before 65535)
      (record { first = address bs; bytes = take (count bs) (drop 4 bs) })
      ∙ rw (all_bytes, data_length)

  end_by_parts : told (end_item bs) ≡ told_end (parts_of bs)
  end_by_parts = told_end_item (right_sum bs) (eqb (count bs) 0) (eqb (address bs) 0) ∙ rw all_bytes

  by_bytes : (before : ℕ) → told (judge before (some bs)) ≡ told_by before (type bs) (parts_of bs)
  by_bytes before =
      told_cond (eqb (type bs) 0) (data_item before bs) (cond (eqb (type bs) 1) (end_item bs) (bad malformed_record))
      ∙ rw (told_cond (eqb (type bs) 1) (end_item bs) (bad malformed_record), data_by_parts before, end_by_parts)

module _ (before : ℕ) (s : List ℕ) where
  pub item_malformed : None ≡ found (record_of 58 s) → told (hex_item before s) ≡ Bad malformed_record
  unfolding hex_item
  item_malformed e = ap (λ (o : Option (List ℕ)). told (judge before o)) (none_found (record_of 58 s) e)

  its_type : (bs : List ℕ) → record_of 58 s ≡ some bs → length s ≤ nowhere → byte_at s 7 ≡ record { value = type bs; next = 9 }
  its_type bs g fits =
      let three : 3 + (count bs + 2) ≡ count bs + 5 = omega arith in
      let one : 1 + (count bs + 1) ≡ count bs + 2 = omega arith in
      let after = bytes_from_lem 3 (count bs + 2) (drop 1 s) bs (rw three (record_bytes 58 s bs g)) in
      let first = (next_byte 0 (count bs + 1) (drop 6 (drop 1 s)) (drop 3 bs) (rw one after)).0 in
      let there : byte_of (drop 7 s) ≡ some (type bs) = rw (drop-drop 6 1 s, get_or-drop 3 bs 0 0) at first in
      rw there at (byte_at_lem s fits 7)

  -- the type is the byte that is read after the address
  module _ {p : Parts} (e : Some p ≡ found (record_of 58 s)) (fits : length s ≤ nowhere) where
    pub type_there : (byte_at s 7).next ≡ nowhere → ⊥
    type_there z =
        let its = one_found (record_of 58 s) p e in
        let nine : 9 ≡ nowhere = rw (its_type its.0 its.1 fits) at z in
        omega arith

    pub item_by_parts : {kind : Reading ℕ} → byte_at s 7 ≡ kind → told (hex_item before s) ≡ told_by before kind.value p
    unfolding hex_item
    item_by_parts {kind} k =
        let its = one_found (record_of 58 s) p e in
        let kinds : kind.value ≡ type its.0 = rw (← k, its_type its.0 its.1 fits) in
        ap (λ (o : Option (List ℕ)). told (judge before o)) its.1
        ∙ by_bytes its.0 (record_length 58 s its.0 its.1) (record_small 58 s its.0 its.1) before
        ∙ ap (told_by before (type its.0)) (sym its.2)
        ∙ ap (λ (n : ℕ). told_by before n p) (sym kinds)
