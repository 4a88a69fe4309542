-- The check byte is a sum rule, and the records are written and read alike.
use Rattle.std.specs.Prelude.{ℕ, suc, ◌+◌, ◌-◌, ◌*◌, ◌/◌, ◌%◌, ◌<◌, ◌≡◌, Bool, true, false, cond, not, eqb, ltb, length, take, drop}
use Rattle.std.proofs.Math.Path.{refl, ap}
use Rattle.std.proofs.Common.{sym, ◌∙◌, length-append, length-drop, length-take-le}
use mathlib.Core.List.{List, [], ◌∷◌, ◌++◌}
use Rattle.std.proofs.Math.Option.{Option, none, some}
use native.Mathlib.Omega.{arith}
use Rattle.std.proofs.Math.Seq.{take_at}
use borrow.Author.Tests.{eq-eqb, ne_eqb, lt-ltb, le-ltb, eqb-true, eqb-false, ltb-true, ltb-false}
use Rattle.laws.specs.Answers.{malformed_record, wrong_sum, past_the_end, no_end}
use Rattle.text_writing.specs.Numerals.{digit, hex2}
use Rattle.tape_records.specs.Records.{record_of, count, address, total, hexes, separator, Bytes}
use Rattle.tape_records.specs.Lemmas.Whole.{never, record_length, record_small}
use Rattle.tape_records.specs.Contents.{Stretch, Item, stretch, finish, bad}
use Rattle.tape_records.specs.Inner.Lawful.{Placed, Lawful}
use Rattle.tape_records.specs.Theorems.Sums.{SumRule, bytes_take, bytes_drop, get_d_small, total_append, written_right, right_written, hexes_append, hexes_length}
use Rattle.tape_intel.specs.IntelHex.{type, right_sum, data_item, end_item, judge, hex_item}
use Rattle.tape_intel.specs.Grammar.{body, check, record_text, end_text, HexData, HexEnd}

abbrev check_bytes : List ℕ → List ℕ
check_bytes bs = check bs ∷ []

one : (t : List ℕ) (n : ℕ) → length t ≡ 1 → Bytes t → (n + total t) % 256 ≡ 0 → t ≡ (256 - n % 256) % 256 ∷ []
one [] n h s e = absurd (omega arith)
one (x ∷ []) n h s e =
    let x< : x < 256 = s.0 in
    let same : (256 - n % 256) % 256 ≡ x = omega arith in
    rw same
one (x ∷ y ∷ t) n h s e = absurd (omega arith)

hex_rule : SumRule 1 check_bytes right_sum
hex_rule =
    record {
      wide = λ bs. refl;
      small = λ bs. (omega arith, tt);
      summed = λ bs h. eq-eqb (total (bs ++ check_bytes bs) % 256) 0 (omega (arith, total_append bs (check_bytes bs)));
      only = λ bs t h l s r. one t (total bs) l s (rw (total_append bs t) at (eqb-true (total (bs ++ t) % 256) 0 r));
    }

-- which tests a kind of record has passed
abbrev chosen_data : Bool → Bool → Bool → Bool → Stretch → Item
chosen_data empty sums past room r = cond empty (bad malformed_record) (cond (not sums) (bad wrong_sum) (cond past (bad past_the_end) (cond room (stretch r) (bad no_end))))

abbrev chosen_end : Bool → Bool → Bool → Item
chosen_end sums empty origin = cond (not sums) (bad wrong_sum) (cond empty (cond origin finish (bad malformed_record)) (bad malformed_record))

end_no_data : (a b c : Bool) (q : Stretch) → chosen_end a b c ≡ stretch q → ⊥
end_no_data false b c q h = never (cc)
end_no_data true false c q h = never (cc)
end_no_data true true true q h = never (cc)
end_no_data true true false q h = never (cc)

data_no_end : (a b c d : Bool) (r : Stretch) → chosen_data a b c d r ≡ finish → ⊥
data_no_end true b c d r h = never (cc)
data_no_end false false c d r h = never (cc)
data_no_end false true true d r h = never (cc)
data_no_end false true false true r h = never (cc)
data_no_end false true false false r h = never (cc)

only_stretch : (t u a b c d : Bool) (e : Item) (r q : Stretch) → (e ≡ stretch q → ⊥) → cond t (chosen_data a b c d r) (cond u e (bad malformed_record)) ≡ stretch q
    → (r ≡ q) × (t ≡ true) × (a ≡ false) × (b ≡ true) × (c ≡ false) × (d ≡ true)
only_stretch false false a b c d e r q n h = never (cc)
only_stretch false true a b c d e r q n h = absurd (n h)
only_stretch true u true b c d e r q n h = never (cc)
only_stretch true u false false c d e r q n h = never (cc)
only_stretch true u false true true d e r q n h = never (cc)
only_stretch true u false true false false e r q n h = never (cc)
only_stretch true u false true false true e r q n h = (cc, refl, refl, refl, refl, refl)

only_finish : (t u a b c : Bool) (d : Item) → (d ≡ finish → ⊥) → cond t d (cond u (chosen_end a b c) (bad malformed_record)) ≡ finish
    → (u ≡ true) × (a ≡ true) × (b ≡ true) × (c ≡ true)
only_finish true u a b c d n h = absurd (n h)
only_finish false false a b c d n h = never (cc)
only_finish false true false b c d n h = never (cc)
only_finish false true true false c d n h = never (cc)
only_finish false true true true false d n h = never (cc)
only_finish false true true true true d n h = (refl, refl, refl, refl)

bad_data : (a b c d : Bool) (r : Stretch) (reason : ℕ) → chosen_data a b c d r ≡ bad reason → 0 < reason
bad_data true b c d r reason h = let same : 5 ≡ reason = cc in omega arith
bad_data false false c d r reason h = let same : 6 ≡ reason = cc in omega arith
bad_data false true true d r reason h = let same : 7 ≡ reason = cc in omega arith
bad_data false true false true r reason h = never (cc)
bad_data false true false false r reason h = let same : 8 ≡ reason = cc in omega arith

bad_end : (a b c : Bool) (reason : ℕ) → chosen_end a b c ≡ bad reason → 0 < reason
bad_end false b c reason h = let same : 6 ≡ reason = cc in omega arith
bad_end true false c reason h = let same : 5 ≡ reason = cc in omega arith
bad_end true true true reason h = never (cc)
bad_end true true false reason h = let same : 5 ≡ reason = cc in omega arith

bad_some : (t u : Bool) (d e : Item) (reason : ℕ) → (d ≡ bad reason → 0 < reason) → (e ≡ bad reason → 0 < reason)
    → cond t d (cond u e (bad malformed_record)) ≡ bad reason → 0 < reason
bad_some true u d e reason f g h = f h
bad_some false true d e reason f g h = g h
bad_some false false d e reason f g h = let same : 5 ≡ reason = cc in omega arith

module _ (w : ℕ) (bs : List ℕ) where
  record_text_lem : record_text w bs ≡ 58 ∷ hexes (body 0 w bs ++ check_bytes (body 0 w bs))
  record_text_lem = rw (hexes_append bs (check_bytes (body 0 w bs)))

  pub text_size : length (record_text w bs) ≡ 11 + 2 * length bs
  text_size = omega (arith, length-append (hexes bs) (hex2 (check (body 0 w bs))), hexes_length bs)

  placed : Placed (record_text w bs) (11 + 2 * length bs)
  unfolding separator
  placed = record { starts = refl; long = text_size }

  -- a record that is written is read again
  its_item : (before : ℕ) (s : List ℕ) → Bytes bs → 0 < length bs → length bs < 256 → w < 65536
      → hex_item before (record_text w bs ++ s)
      ≡ cond (ltb 65536 (w + length bs)) (bad past_the_end) (cond (ltb before 65535) (stretch (record { first = w; bytes = bs })) (bad no_end))
  unfolding hex_item
  its_item before s small there few w< =
      let found = written_right hex_rule 58 (omega arith) (body 0 w bs) s (few, (omega arith, (omega arith, (omega arith, small)))) (omega arith) in
      let address : w / 256 * 256 + w % 256 ≡ w = omega arith in
      ap (λ (t : List ℕ). judge before (record_of 58 (t ++ s))) record_text_lem
      ∙ rw (
        found.0,
        found.1,
        ne_eqb (length bs) 0 (λ z. omega arith),
        address,
        take_at bs (check_bytes (body 0 w bs)) (length bs) refl,
      )

end_placed : Placed end_text 11
unfolding separator
end_placed = record { starts = refl; long = refl }

end_item_lem : (before : ℕ) (s : List ℕ) → hex_item before (end_text ++ s) ≡ finish
unfolding hex_item digit
end_item_lem before s =
    let found = written_right hex_rule 58 (omega arith) (body 1 0 []) s (omega arith, (omega arith, (omega arith, (omega arith, tt)))) refl in
    ap (judge before) found.0

-- and back
shape : (bs : List ℕ) → length bs ≡ count bs + 5 → Bytes bs → take (count bs + 5 - 1) bs ≡ body (type bs) (address bs) (take (count bs) (drop 4 bs))
shape [] h s = absurd (omega arith)
shape (n ∷ []) h s = absurd (omega arith)
shape (n ∷ a ∷ []) h s = absurd (omega arith)
shape (n ∷ a ∷ b ∷ []) h s = absurd (omega arith)
shape (n ∷ a ∷ b ∷ y ∷ l) h s =
    let four : n + 5 - 1 ≡ suc (suc (suc (suc n))) = omega arith in
    let few : length (take n l) ≡ n = length-take-le n l (omega arith) in
    let b< : b < 256 = s.1.1.0 in
    let high : (a * 256 + b) / 256 ≡ a = omega arith in
    let low : (a * 256 + b) % 256 ≡ b = omega arith in
    rw (four, few, high, low)

module _ (before : ℕ) (s : List ℕ) where
  its_bytes : (bs : List ℕ) → record_of 58 s ≡ some bs → right_sum bs ≡ true
      → s ≡ 58 ∷ hexes (body (type bs) (address bs) (take (count bs) (drop 4 bs)) ++ check_bytes (body (type bs) (address bs) (take (count bs) (drop 4 bs))))
      ++ drop (11 + 2 * count bs) s
  its_bytes bs g e =
      (right_written hex_rule 58 (omega arith) bs s g e).1
      ∙ ap (λ (t : List ℕ). 58 ∷ hexes (t ++ check_bytes t) ++ drop (11 + 2 * count bs) s) (shape bs (record_length 58 s bs g) (record_small 58 s bs g))

  data_by : (r : Stretch) (o : Option (List ℕ)) → record_of 58 s ≡ o → judge before o ≡ stretch r
      → (d : List ℕ) × HexData before r d × (s ≡ d ++ drop (11 + 2 * length r.bytes) s)
  data_by r none g f = never (cc)
  data_by r (some bs) g f =
      let tests = only_stretch (eqb (type bs) 0) (eqb (type bs) 1) (eqb (count bs) 0) (right_sum bs) (ltb 65536 (address bs + count bs)) (ltb before 65535) (end_item bs) _ r (end_no_data (right_sum bs) (eqb (count bs) 0) (eqb (address bs) 0) r) f in
      let small = record_small 58 s bs g in
      let few : length (take (count bs) (drop 4 bs)) ≡ count bs =
      length-take-le (count bs) (drop 4 bs) (simp length-drop (omega (arith, record_length 58 s bs g))) in
      let data_type : type bs ≡ 0 = eqb-true (type bs) 0 tests.1 in
      let there : count bs ≡ 0 → ⊥ = eqb-false (count bs) 0 tests.2 in
      rw (← tests.0) (
        record_text (address bs) (take (count bs) (drop 4 bs)),
        (
          record {
            small = bytes_take (count bs) (drop 4 bs) (bytes_drop 4 bs small);
            some = omega arith;
            few = omega (arith, get_d_small bs 0 small);
            inside = omega (arith, ltb-false 65536 (address bs + count bs) tests.4);
          },
          ltb-true before 65535 tests.5,
          refl,
        ),
        (rw data_type at (its_bytes bs g tests.3))
            ∙ ap (λ (t : List ℕ). t ++ drop (11 + 2 * count bs) s) (sym (record_text_lem (address bs) (take (count bs) (drop 4 bs))))
            ∙ ap (λ (n : ℕ). record_text (address bs) (take (count bs) (drop 4 bs)) ++ drop (11 + 2 * n) s) (sym few),
      )

  end_by : (o : Option (List ℕ)) → record_of 58 s ≡ o → judge before o ≡ finish → (e : List ℕ) × HexEnd before e × (s ≡ e ++ drop 11 s)
  unfolding digit
  end_by none g f = never (cc)
  end_by (some bs) g f =
      let tests = only_finish (eqb (type bs) 0) (eqb (type bs) 1) (right_sum bs) (eqb (count bs) 0) (eqb (address bs) 0) (data_item before bs) (data_no_end (eqb (count bs) 0) (right_sum bs) (ltb 65536 (address bs + count bs)) (ltb before 65535) _) f in
      let ends : type bs ≡ 1 = eqb-true (type bs) 1 tests.0 in
      let empty : count bs ≡ 0 = eqb-true (count bs) 0 tests.2 in
      let origin : address bs ≡ 0 = eqb-true (address bs) 0 tests.3 in
      (end_text, refl, rw (ends, origin, empty) at (its_bytes bs g tests.1))

  bad_by : (o : Option (List ℕ)) (reason : ℕ) → judge before o ≡ bad reason → 0 < reason
  bad_by none reason f = let same : 5 ≡ reason = cc in omega arith
  bad_by (some bs) reason f =
      bad_some (eqb (type bs) 0) (eqb (type bs) 1) (data_item before bs) (end_item bs) reason
      (bad_data (eqb (count bs) 0) (right_sum bs) (ltb 65536 (address bs + count bs)) (ltb before 65535) _ reason)
      (bad_end (right_sum bs) (eqb (count bs) 0) (eqb (address bs) 0) reason)
      f

pub hex_lawful : Lawful hex_item HexData HexEnd
unfolding hex_item
hex_lawful =
    record {
      data_placed = λ k r d t. rw t.2 (placed r.first r.bytes);
      data_read = λ k r d s t.
          rw (
            t.2,
            its_item r.first r.bytes k s t.0.small t.0.some t.0.few (omega (arith, t.0.inside, t.0.some)),
            le-ltb 65536 (r.first + length r.bytes) t.0.inside,
            lt-ltb k 65535 t.1,
          );
      data_back = λ k r s e. data_by k s r (record_of 58 s) refl e;
      end_placed = λ k e t. rw t end_placed;
      end_read = λ k e s t. rw t (end_item_lem k s);
      end_back = λ k s e. end_by k s (record_of 58 s) refl e;
      bad_back = λ k s reason e. bad_by k s (record_of 58 s) reason e;
    }
