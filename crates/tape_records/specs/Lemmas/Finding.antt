-- What read_record finds, from the numbers that it reads.
use Rattle.std.specs.Prelude.{◌≡◌, ℕ, suc, ◌+◌, ◌*◌, ◌<◌, ◌≤◌, Bool, true, false, cond, List, [], ◌∷◌, length, take, drop, ◌==◌, ◌≢◌, slice_index_or, refl, Some, None}
use Rattle.std.proofs.Common.{ap, sym, ◌∙◌, zero-add, arith, lt-ltb, get_or-take, drop-drop}
use Rattle.std.proofs.Math.Option.{Option, none, some}
use Rattle.text_reading.specs.Numbers.{nowhere, byte_at, word_at, mark_at}
use Rattle.text_reading.specs.declared.Reading.{Reading}
use Rattle.text_reading.specs.Lemmas.Found.{lost_byte, lost_word}
use Rattle.tape_records.specs.Records.{byte_of, bytes_of, counted, record_of, word, total}
use Rattle.tape_records.specs.Inner.Reading.{summed, parts_of, found}
use Rattle.tape_records.specs.Lemmas.Places.{past_byte, some_byte, no_byte, byte_at_lem, WordAt, word_at_lem, past_word, joined, bytes_split, bytes_length, next_byte, bytes_from_lem, bytes_to}

-- the count, which stands after the mark
abbrev pub count_at : ℕ → List ℕ → ℕ
count_at mark s = (byte_at s (mark_at mark s 0)).value

abbrev Counted : ℕ → List ℕ → Type 0
Counted mark s = (record_of mark s ≡ bytes_of (count_at mark s + 5) (drop 1 s)) × (byte_of (drop 1 s) ≡ some (count_at mark s))

at_mark : (mark c : ℕ) (l : List ℕ) → mark_at mark (c ∷ l) 0 ≡ cond (c == mark) 1 nowhere
unfolding mark_at
at_mark mark c l = rw (lt-ltb 0 (suc (length l)) (omega arith))

module _ (mark c : ℕ) (l : List ℕ) (fits : length (c ∷ l) ≤ nowhere) where
  no_count_by : (b : Bool) → (c == mark) ≡ b → (byte_at (c ∷ l) (cond b 1 nowhere)).next ≡ nowhere → cond b (counted (byte_of l) l) none ≡ none
  no_count_by false e h = refl
  no_count_by true e h = rw (no_byte (c ∷ l) fits 1 (byte_of l) (byte_at_lem (c ∷ l) fits 1) (omega arith) h)

  with_count_by : (b : Bool) → (c == mark) ≡ b → ((byte_at (c ∷ l) (cond b 1 nowhere)).next ≢ nowhere)
      → (cond b (counted (byte_of l) l) none ≡ bytes_of ((byte_at (c ∷ l) (cond b 1 nowhere)).value + 5) l)
      × (byte_of l ≡ some (byte_at (c ∷ l) (cond b 1 nowhere)).value)
  with_count_by false e h = absurd (h (past_byte (c ∷ l) fits))
  with_count_by true e h =
      let read = some_byte (c ∷ l) fits 1 (byte_of l) (byte_at_lem (c ∷ l) fits 1) h in
      (rw read.0, read.0)

none_counted : (mark : ℕ) (s : List ℕ) → length s ≤ nowhere → (byte_at s (mark_at mark s 0)).next ≡ nowhere → record_of mark s ≡ none
unfolding record_of
none_counted mark [] f h = refl
none_counted mark (c ∷ l) f h = no_count_by mark c l f (c == mark) refl (rw (at_mark mark c l) at h)

empty_mark : (mark : ℕ) → mark_at mark [] 0 ≡ nowhere
unfolding mark_at
empty_mark mark = refl

with_count : (mark : ℕ) (s : List ℕ) → length s ≤ nowhere → ((byte_at s (mark_at mark s 0)).next ≢ nowhere) → Counted mark s
unfolding record_of byte_at
with_count mark [] f h = absurd (h (rw (empty_mark mark) (past_byte [] f)))
with_count mark (c ∷ l) f h = rw (at_mark mark c l) (with_count_by mark c l f (c == mark) refl (rw (at_mark mark c l) at h))

-- the bytes after the mark, n being the count
module _ (s : List ℕ) (fits : length s ≤ nowhere) (n : ℕ) (small : n < 256) where
  abbrev body : Option (List ℕ)
  body = bytes_of (n + 3) (drop 1 s)

  abbrev tail : Option (List ℕ)
  tail = bytes_of 2 (drop (2 * (n + 3)) (drop 1 s))

  whole : bytes_of (n + 5) (drop 1 s) ≡ joined body tail
  whole =
      let five : n + 3 + 2 ≡ n + 5 = omega arith in
      rw (← five) (bytes_split (n + 3) 2 (drop 1 s))

  -- where the last two bytes are read
  at_tail : (cs : List ℕ) → body ≡ some cs → WordAt tail (1 + 2 * length cs) (word_at s (1 + 2 * length cs))
  at_tail cs e =
      let size : length cs ≡ n + 3 = bytes_length (n + 3) (drop 1 s) cs e in
      rw (size, drop-drop (2 * (n + 3)) 1 s) (word_at_lem s fits (1 + 2 * (n + 3)))

  missing_by : (o p : Option (List ℕ)) → body ≡ o → tail ≡ p → (word_at s (summed 0 1 o).next).next ≡ nowhere → joined o p ≡ none
  missing_by none p e f h = refl
  missing_by (some cs) none e f h = refl
  missing_by (some cs) (some ds) e f h =
      let read : word_at s (1 + 2 * length cs) ≡ record { value = word ds; next = 1 + 2 * length cs + 4 } = rw f at (at_tail cs e) in
      let end : 1 + 2 * length cs + 4 ≡ nowhere = rw read at h in
      absurd (omega (arith, bytes_length (n + 3) (drop 1 s) cs e))

  there_by : (o p : Option (List ℕ)) → body ≡ o → tail ≡ p → ((word_at s (summed 0 1 o).next).next ≢ nowhere) → joined o p ≢ none
  there_by none p e f h g = h (past_word s fits)
  there_by (some cs) none e f h g = h (rw f at (at_tail cs e))
  there_by (some cs) (some ds) e f h g = let z : ◌≡◌ {A = ℕ} 0 1 = cc in omega arith

  -- the parts of a record with the bytes bs
  parts_by : (bs : List ℕ) → bytes_of (n + 5) (drop 1 s) ≡ some bs → byte_of (drop 1 s) ≡ some n
      → parts_of bs ≡ record { head = record { address = (word_at s 3).value; count = n }; sum = (summed 0 1 body).value; last = (word_at s (summed 0 1 body).next).value }
  parts_by bs e f =
      let five : n + 3 + 2 ≡ n + 5 = omega arith in
      let first : 1 + (n + 4) ≡ n + 5 = omega arith in
      let words : 2 + (n + 2) ≡ n + 4 = omega arith in
      let split : bytes_of (n + 3 + 2) (drop 1 s) ≡ some bs = rw five e in
      let front : body ≡ some (take (n + 3) bs) = bytes_to (n + 3) 2 (drop 1 s) bs split in
      let back : tail ≡ some (drop (n + 3) bs) = bytes_from_lem (n + 3) 2 (drop 1 s) bs split in
      let after : bytes_of (n + 4) (drop 3 s) ≡ some (drop 1 bs) = rw (drop-drop 2 1 s) at (bytes_from_lem 1 (n + 4) (drop 1 s) bs (rw first e)) in
      let address : bytes_of 2 (drop 3 s) ≡ some (take 2 (drop 1 bs)) = bytes_to 2 (n + 2) (drop 3 s) (drop 1 bs) (rw words after) in
      let number : n ≡ slice_index_or bs 0 0 = cc (next_byte 0 (n + 4) (drop 1 s) bs (rw first e)).0 in
      let word3 : word_at s 3 ≡ record { value = word (take 2 (drop 1 bs)); next = 7 } = rw address at (word_at_lem s fits 3) in
      let lastword : word_at s (1 + 2 * length (take (n + 3) bs)) ≡ record { value = word (drop (n + 3) bs); next = 1 + 2 * length (take (n + 3) bs) + 4 } = rw back at (at_tail (take (n + 3) bs) front) in
      let pair : word (take 2 (drop 1 bs)) ≡ word (drop 1 bs) = rw (get_or-take 2 (drop 1 bs) 0 0 (omega arith), get_or-take 2 (drop 1 bs) 1 0 (omega arith)) in
      rw (front, lastword, word3, pair, ← number, zero-add (total (take (n + 3) bs)))

  address_by : (bs : List ℕ) → bytes_of (n + 5) (drop 1 s) ≡ some bs → (word_at s 3).next ≡ 7
  address_by bs e =
      let first : 1 + (n + 4) ≡ n + 5 = omega arith in
      let words : 2 + (n + 2) ≡ n + 4 = omega arith in
      let after : bytes_of (n + 4) (drop 3 s) ≡ some (drop 1 bs) = rw (drop-drop 2 1 s) at (bytes_from_lem 1 (n + 4) (drop 1 s) bs (rw first e)) in
      let address : bytes_of 2 (drop 3 s) ≡ some (take 2 (drop 1 bs)) = bytes_to 2 (n + 2) (drop 3 s) (drop 1 bs) (rw words after) in
      let word3 : word_at s 3 ≡ record { value = word (take 2 (drop 1 bs)); next = 7 } = rw address at (word_at_lem s fits 3) in
      rw word3

  missing : (word_at s (summed 0 1 body).next).next ≡ nowhere → bytes_of (n + 5) (drop 1 s) ≡ none
  missing h = whole ∙ missing_by body tail refl refl h

  there : (o : Option (List ℕ)) → bytes_of (n + 5) (drop 1 s) ≡ o → byte_of (drop 1 s) ≡ some n → ((word_at s (summed 0 1 body).next).next ≢ nowhere)
      → found o
      ≡ Some (record { head = record { address = (word_at s 3).value; count = n }; sum = (summed 0 1 body).value; last = (word_at s (summed 0 1 body).next).value })
  there none e f h = absurd (there_by body tail refl refl h (sym whole ∙ e))
  there (some bs) e f h = ap Some (parts_by bs e f)

  there_address : (o : Option (List ℕ)) → bytes_of (n + 5) (drop 1 s) ≡ o → byte_of (drop 1 s) ≡ some n → ((word_at s (summed 0 1 body).next).next ≢ nowhere)
      → (word_at s 3).next ≢ nowhere
  there_address none e f h z = there_by body tail refl refl h (sym whole ∙ e)
  there_address (some bs) e f h z = let seven = address_by bs e in omega (arith, z, seven)

-- For each way out of the code, what it found: by the numbers that it read.
module _ (mark : ℕ) (s : List ℕ) (fits : length s ≤ nowhere) where
  pub no_mark : mark_at mark s 0 ≡ nowhere → None ≡ found (record_of mark s)
  no_mark h = rw (none_counted mark s fits (lost_byte s fits (mark_at mark s 0) h))

  module _ {place : ℕ} (marked : mark_at mark s 0 ≡ place) where
    pub no_count : (byte_at s place).next ≡ nowhere → None ≡ found (record_of mark s)
    no_count h = rw (none_counted mark s fits (rw marked h))

    module _ {number : Reading ℕ} (counts : byte_at s place ≡ number) (small : number.value < 256) (there-is : (byte_at s place).next ≡ nowhere → ⊥) where
      with_number : (record_of mark s ≡ bytes_of (number.value + 5) (drop 1 s)) × (byte_of (drop 1 s) ≡ some number.value)
      with_number = rw (← counts, ← marked) (with_count mark s fits (λ z. there-is (rw (← marked) z)))

      missing_last : (word_at s (summed 0 1 (bytes_of (number.value + 3) (drop 1 s))).next).next ≡ nowhere → None ≡ found (record_of mark s)
      missing_last h = rw (with_number.0, missing s fits number.value small h)

      pub no_sum : (summed 0 1 (bytes_of (number.value + 3) (drop 1 s))).next ≡ nowhere → None ≡ found (record_of mark s)
      no_sum h = missing_last (lost_word s fits _ h)

      module _ {sum : Reading ℕ} (sums : summed 0 1 (bytes_of (number.value + 3) (drop 1 s)) ≡ sum) where
        pub cut_short : (word_at s sum.next).next ≡ nowhere → None ≡ found (record_of mark s)
        cut_short h = missing_last (rw sums h)

        module _ (h : (word_at s sum.next).next ≡ nowhere → ⊥) where
          last_there : (word_at s (summed 0 1 (bytes_of (number.value + 3) (drop 1 s))).next).next ≢ nowhere
          last_there z = h (rw sums at z)

          pub no_address : (word_at s 3).next ≡ nowhere → None ≡ found (record_of mark s)
          no_address z = absurd (there_address s fits number.value small (bytes_of (number.value + 5) (drop 1 s)) refl with_number.1 last_there z)

          pub whole_record : {last address : Reading ℕ} → word_at s sum.next ≡ last → word_at s 3 ≡ address
              → Some (record { head = record { address = address.value; count = number.value }; sum = sum.value; last = last.value }) ≡ found (record_of mark s)
          whole_record lasts places =
              rw (with_number.0, ← lasts, ← places, ← sums)
              (sym (there s fits number.value small (bytes_of (number.value + 5) (drop 1 s)) refl with_number.1 last_there))
