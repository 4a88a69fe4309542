-- The tape's sum rule is one, and its records are written and read alike.
use Rattle.std.specs.Prelude.{ℕ, suc, ◌+◌, ◌-◌, ◌*◌, ◌/◌, ◌%◌, ◌<◌, ◌≡◌, refl, true, cond, eqb, ltb, length, take, drop}
use Rattle.std.proofs.Math.Path.{ap}
use Rattle.std.proofs.Common.{sym, ◌∙◌, length-append, length-drop, drop_at, length-take-le, eq-eqb, ne_eqb, le-ltb, eqb-true, ltb-false}
use mathlib.Core.List.{List, [], ◌∷◌, ◌++◌}
use Rattle.std.proofs.Math.Option.{Option, none, some}
use native.Mathlib.Omega.{arith}
use Rattle.std.proofs.Math.Seq.{take_at}
use Rattle.std.proofs.lemmas.Bool.{eqb-false}
use Rattle.laws.specs.Answers.{past_the_end, no_end}
use Rattle.text_writing.specs.Numerals.{hex4}
use Rattle.tape_records.specs.Records.{record_of, count, address, sum, last, total, word, hexes, separator, Bytes}
use Rattle.tape_records.specs.Lemmas.Whole.{never, record_length, record_small}
use Rattle.tape_records.specs.Contents.{Stretch, stretch, finish, bad}
use Rattle.tape_records.specs.Inner.Lawful.{Placed, Lawful}
use Rattle.tape_records.specs.Theorems.Sums.{SumRule, bytes_take, bytes_drop, get_d_small, written_right, right_written, hexes_append, hexes_length}
use Rattle.tape_paper.specs.Tapes.{right_sum, judge, tape_item}
use Rattle.tape_paper.specs.Lemmas.Items.{only_stretch, only_finish, bad_some}
use Rattle.tape_paper.specs.Grammar.{body, sum_of, record_text, TapeData, TapeEnd}

-- the sum's two bytes
abbrev sum_bytes : List ℕ → List ℕ
sum_bytes bs = total bs % 65536 / 256 ∷ total bs % 65536 % 256 ∷ []

sum_of_lem : (bs t : List ℕ) → length bs + 2 ≡ count bs + 5 → (sum (bs ++ t) ≡ total bs % 65536) × (last (bs ++ t) ≡ word t)
sum_of_lem [] t h = absurd (omega arith)
sum_of_lem (n ∷ bs) t h =
    let size : length (n ∷ bs) ≡ n + 3 = omega arith in
    (rw (take_at (n ∷ bs) t (n + 3) size), rw (drop_at (n ∷ bs) t (n + 3) size))

two : (t : List ℕ) (n : ℕ) → length t ≡ 2 → Bytes t → n ≡ word t → t ≡ n / 256 ∷ n % 256 ∷ []
two [] n h s e = absurd (omega arith)
two (x ∷ []) n h s e = absurd (omega arith)
two (x ∷ y ∷ []) n h s e =
    let y< : y < 256 = s.1.0 in
    let high : n / 256 ≡ x = omega arith in
    let low : n % 256 ≡ y = omega arith in
    rw (high, low)
two (x ∷ y ∷ z ∷ t) n h s e = absurd (omega arith)

tape_rule : SumRule 2 sum_bytes right_sum
tape_rule =
    record {
      wide = λ bs. refl;
      small = λ bs. (omega arith, (omega arith, tt));
      summed = λ bs h.
          let parts = sum_of_lem bs (sum_bytes bs) h in
          eq-eqb (sum (bs ++ sum_bytes bs)) (last (bs ++ sum_bytes bs)) (omega (arith, parts.0, parts.1));
      only = λ bs t h l s r.
          let parts = sum_of_lem bs t h in
          two t (total bs % 65536) l s (sym parts.0 ∙ eqb-true (sum (bs ++ t)) (last (bs ++ t)) r ∙ parts.1);
    }

module _ (w : ℕ) (bs : List ℕ) where
  record_text_lem : record_text w bs ≡ 59 ∷ hexes (body w bs ++ sum_bytes (body w bs))
  record_text_lem = rw (hexes_append bs (sum_bytes (body w bs)))

  pub text_size : length (record_text w bs) ≡ 11 + 2 * length bs
  text_size = omega (arith, length-append (hexes bs) (hex4 (sum_of w bs)), hexes_length bs)

  placed : Placed (record_text w bs) (11 + 2 * length bs)
  unfolding separator
  placed = record { starts = refl; long = text_size }

  -- a record that is written is read again
  its_item : (before : ℕ) (s : List ℕ) → Bytes bs → length bs < 256 → w < 65536
      → tape_item before (record_text w bs ++ s)
      ≡ cond (eqb (length bs) 0) (cond (eqb w before) finish (bad no_end))
      (cond (ltb 65536 (w + length bs)) (bad past_the_end) (stretch (record { first = w; bytes = bs })))
  unfolding tape_item
  its_item before s small few w< =
      let found = written_right tape_rule 59 (omega arith) (body w bs) s (few, (omega arith, (omega arith, small))) (omega arith) in
      let address : w / 256 * 256 + w % 256 ≡ w = omega arith in
      ap (λ (t : List ℕ). judge before (record_of 59 (t ++ s))) record_text_lem
      ∙ rw (found.0, found.1, address, take_at bs (sum_bytes (body w bs)) (length bs) refl)

-- and back
shape : (bs : List ℕ) → length bs ≡ count bs + 5 → Bytes bs → take (count bs + 5 - 2) bs ≡ body (address bs) (take (count bs) (drop 3 bs))
shape [] h s = absurd (omega arith)
shape (n ∷ []) h s = absurd (omega arith)
shape (n ∷ a ∷ []) h s = absurd (omega arith)
shape (n ∷ a ∷ b ∷ l) h s =
    let three : n + 5 - 2 ≡ suc (suc (suc n)) = omega arith in
    let few : length (take n l) ≡ n = length-take-le n l (omega arith) in
    let b< : b < 256 = s.1.1.0 in
    let high : (a * 256 + b) / 256 ≡ a = omega arith in
    let low : (a * 256 + b) % 256 ≡ b = omega arith in
    rw (three, few, high, low)

module _ (before : ℕ) (s : List ℕ) where
  its_text : (bs : List ℕ) → record_of 59 s ≡ some bs → right_sum bs ≡ true
      → s ≡ record_text (address bs) (take (count bs) (drop 3 bs)) ++ drop (11 + 2 * count bs) s
  its_text bs g e =
      (right_written tape_rule 59 (omega arith) bs s g e).1
      ∙ ap (λ (t : List ℕ). 59 ∷ hexes (t ++ sum_bytes t) ++ drop (11 + 2 * count bs) s) (shape bs (record_length 59 s bs g) (record_small 59 s bs g))
      ∙ ap (λ (t : List ℕ). t ++ drop (11 + 2 * count bs) s) (sym (record_text_lem (address bs) (take (count bs) (drop 3 bs))))

  data_by : (r : Stretch) (o : Option (List ℕ)) → record_of 59 s ≡ o → judge before o ≡ stretch r
      → (d : List ℕ) × TapeData before r d × (s ≡ d ++ drop (11 + 2 * length r.bytes) s)
  data_by r none g f = never (cc)
  data_by r (some bs) g f =
      let tests = only_stretch (right_sum bs) (eqb (count bs) 0) (eqb (address bs) before) (ltb 65536 (address bs + count bs)) _ r f in
      let small = record_small 59 s bs g in
      let few : length (take (count bs) (drop 3 bs)) ≡ count bs =
      length-take-le (count bs) (drop 3 bs) (simp length-drop (omega (arith, record_length 59 s bs g))) in
      let there : count bs ≡ 0 → ⊥ = eqb-false (count bs) 0 tests.2 in
      rw (← tests.0) (
        record_text (address bs) (take (count bs) (drop 3 bs)),
        (
          record {
            small = bytes_take (count bs) (drop 3 bs) (bytes_drop 3 bs small);
            some = omega arith;
            few = omega (arith, get_d_small bs 0 small);
            inside = omega (arith, ltb-false 65536 (address bs + count bs) tests.3);
          },
          refl,
        ),
        its_text bs g tests.1
            ∙ ap (λ (n : ℕ). record_text (address bs) (take (count bs) (drop 3 bs)) ++ drop (11 + 2 * n) s) (sym few),
      )

  end_by : (o : Option (List ℕ)) → record_of 59 s ≡ o → judge before o ≡ finish → (e : List ℕ) × TapeEnd before e × (s ≡ e ++ drop 11 s)
  end_by none g f = never (cc)
  end_by (some bs) g f =
      let tests = only_finish (right_sum bs) (eqb (count bs) 0) (eqb (address bs) before) (ltb 65536 (address bs + count bs)) _ f in
      let small = record_small 59 s bs g in
      let empty : count bs ≡ 0 = eqb-true (count bs) 0 tests.1 in
      let number : address bs ≡ before = eqb-true (address bs) before tests.2 in (
        record_text before [],
        (omega (arith, number, get_d_small (drop 1 bs) 0 (bytes_drop 1 bs small), get_d_small (drop 1 bs) 1 (bytes_drop 1 bs small)), refl),
        rw (empty, number) at (its_text bs g tests.0),
      )

  bad_by : (o : Option (List ℕ)) (reason : ℕ) → judge before o ≡ bad reason → 0 < reason
  bad_by none reason f = let same : 5 ≡ reason = cc in omega arith
  bad_by (some bs) reason f = bad_some (right_sum bs) (eqb (count bs) 0) (eqb (address bs) before) (ltb 65536 (address bs + count bs)) _ reason f

pub tape_lawful : Lawful tape_item TapeData TapeEnd
unfolding tape_item
tape_lawful =
    record {
      data_placed = λ k r d t. rw t.1 (placed r.first r.bytes);
      data_read = λ k r d s t.
          rw (
            t.1,
            its_item r.first r.bytes k s t.0.small t.0.few (omega (arith, t.0.inside, t.0.some)),
            ne_eqb (length r.bytes) 0 (λ z. omega (arith, t.0.some)),
            le-ltb 65536 (r.first + length r.bytes) t.0.inside,
          );
      data_back = λ k r s e. data_by k s r (record_of 59 s) refl e;
      end_placed = λ k e t. rw t.1 (placed k []);
      end_read = λ k e s t. rw (t.1, its_item k [] k s tt (omega arith) t.0, eq-eqb k k refl);
      end_back = λ k s e. end_by k s (record_of 59 s) refl e;
      bad_back = λ k s reason e. bad_by k s (record_of 59 s) reason e;
    }
