-- What is kept, with a fresh end record, is a tape; of a sound tape every record is kept, and nothing is dropped.
use Rattle.std.specs.Prelude.{ℕ, suc, ◌+◌, ◌*◌, ◌/◌, ◌%◌, ◌<◌, ◌≡◌, refl, Bool, true, false, cond, List, [], ◌∷◌, ◌++◌, eqb, length, drop}
use Rattle.std.proofs.Common.{ap, sym, ◌∙◌, append-nil, add-zero, arith, length-append, ne_eqb}
use Rattle.laws.specs.Lemmas.Agree.{agree}
use Rattle.text_writing.specs.Numerals.{digit, hex2, hex4}
use Rattle.tape_records.specs.Records.{record_of, separator, only_separators, hexes, Bytes}
use Rattle.tape_records.specs.Lemmas.Whole.{never}
use Rattle.tape_records.specs.Contents.{Stretch, Item, stretch, finish, bad}
use Rattle.tape_records.specs.Grammar.{Gap, Text, Fits}
use Rattle.tape_records.specs.Theorems.Complete.{whole}
use Rattle.tape_paper.specs.Tapes.{tape_of}
use Rattle.tape_paper.specs.Grammar.{sum_of, record_text, TapeData, TapeEnd, Tape, tape_text}
use Rattle.tape_paper.specs.Lemmas.Lawful.{tape_lawful, text_size}
use Rattle.tape_paper.specs.Theorems.Reading.{reads_back}
use Rattle.tape_rescuing.specs.Rescuing.{worth, found, saved}
use Rattle.tape_rescuing.specs.Lemmas.Worth.{item_worth_stretch, item_worth_finish, worth_item}

-- every record that is kept fits
pub kept_fits : (at : ℕ) (s : List ℕ) → Fits (saved at s).records
kept_fits at [] = tt
kept_fits at (c ∷ s) = by_test (eqb c 59) (worth (record_of 59 (c ∷ s))) refl (kept_fits (suc at) s)
  where
    by_test : (b : Bool) (i : Item) → worth (record_of 59 (c ∷ s)) ≡ i → Fits (saved (suc at) s).records
        → Fits (cond b (found at i (saved (suc at) s)) (saved (suc at) s)).records
    by_test true (stretch r) e f = ((tape_lawful.data_back 0 r (c ∷ s) (worth_item 0 (c ∷ s) r e)).1.0, f)
    by_test true finish e f = f
    by_test true (bad reason) e f = f
    by_test false i e f = f

-- What comes out is accepted, and read as the records that were kept.
pub kept_accepted : (s : List ℕ) → length (saved 0 s).records < 65536
    → tape_of (tape_text 0 (saved 0 s).records) ≡ whole 0 (saved 0 s).records
kept_accepted s h = reads_back (saved 0 s).records (kept_fits 0 s) h

-- text without a `;` is passed over
abbrev Plain : List ℕ → Type 0
Plain [] = Unit
Plain (c ∷ s) = (eqb c 59 ≡ false) × Plain s

over_plain : (t s : List ℕ) (at : ℕ) → Plain t → saved at (t ++ s) ≡ saved (at + length t) s
over_plain [] s at h = rw (add-zero at)
over_plain (c ∷ t) s at h =
    let same : suc at + length t ≡ at + suc (length t) = omega arith in
    rw (h.0, ← same) (over_plain t s (suc at) h.1)

plain_append : (s t : List ℕ) → Plain s → Plain t → Plain (s ++ t)
plain_append [] t h g = g
plain_append (c ∷ s) t h g = (h.0, plain_append s t h.1 g)

plain_digit : (d : ℕ) → d < 16 → eqb (digit d) 59 ≡ false
unfolding digit
plain_digit = agree (λ d. eqb (digit d) 59) (λ d. false) 16 refl

plain_byte : (b : ℕ) → b < 256 → Plain (hex2 b)
plain_byte b h = (plain_digit (b / 16) (omega arith), (plain_digit (b % 16) (omega arith), tt))

plain_bytes : (bs : List ℕ) → Bytes bs → Plain (hexes bs)
plain_bytes [] h = tt
plain_bytes (b ∷ bs) h = plain_append (hex2 b) (hexes bs) (plain_byte b h.0) (plain_bytes bs h.1)

no_mark : (c : ℕ) → separator c ≡ true → eqb c 59 ≡ false
unfolding separator
no_mark c e = ne_eqb c 59 (λ z. let y : ◌≡◌ {A = Bool} false true = rw z at e in let x : ◌≡◌ {A = ℕ} 0 1 = cc in omega arith)

plain_gap : (g : List ℕ) → Gap g → Plain g
plain_gap [] h = tt
plain_gap (c ∷ g) h = by_test (separator c) refl h (plain_gap g)
  where
    by_test : (b : Bool) → separator c ≡ b → cond b (only_separators g) false ≡ true → (Gap g → Plain g) → Plain (c ∷ g)
    by_test true e f more = (no_mark c e, more f)
    by_test false e f more = never (cc)

-- a record is passed over, all of it, and found for what it is
module _ (w : ℕ) (bs : List ℕ) (small : Bytes bs) (few : length bs < 256) (w< : w < 65536) where
  plain_record : Plain (drop 1 (record_text w bs))
  plain_record =
      plain_append (hex2 (length bs) ++ hex4 w ++ hexes bs) (hex4 (sum_of w bs))
      (plain_append (hex2 (length bs) ++ hex4 w) (hexes bs)
      (plain_append (hex2 (length bs)) (hex4 w) (plain_byte (length bs) few)
      (plain_append (hex2 (w / 256)) (hex2 (w % 256)) (plain_byte (w / 256) (omega arith)) (plain_byte (w % 256) (omega arith))))
      (plain_bytes bs small))
      (plain_append (hex2 (sum_of w bs / 256)) (hex2 (sum_of w bs % 256)) (plain_byte (sum_of w bs / 256) (omega arith)) (plain_byte (sum_of w bs % 256) (omega arith)))

  over_record : (at : ℕ) (s : List ℕ)
      → saved at (record_text w bs ++ s) ≡ found at (worth (record_of 59 (record_text w bs ++ s))) (saved (at + (11 + 2 * length bs)) s)
  over_record at s =
      let size : suc at + length (drop 1 (record_text w bs)) ≡ at + (11 + 2 * length bs) = omega (arith, text_size w bs) in
      ap (found at (worth (record_of 59 (record_text w bs ++ s)))) (over_plain (drop 1 (record_text w bs)) s (suc at) plain_record ∙ rw size)

sound_from : (rs : List Stretch) (before at : ℕ) (s : List ℕ) → Text TapeData TapeEnd before rs s
    → saved at s ≡ record { records = rs; dropped = 0; first = at + length s }
sound_from [] before at s t =
    let number = t.4.0 in
    let e : s ≡ t.0 ++ (record_text before [] ++ t.2) = t.6 ∙ ap (λ (l : List ℕ). t.0 ++ (l ++ t.2)) t.4.1 in
    let finished = item_worth_finish before (record_text before [] ++ t.2) (tape_lawful.end_read before (record_text before []) t.2 (t.4.0, refl)) in
    let sizes : at + length t.0 + (11 + 2 * 0) + length t.2 ≡ at + length s =
    omega (arith, ap length e, length-append t.0 (record_text before [] ++ t.2), length-append (record_text before []) t.2, text_size before []) in
    ap (saved at) e
    ∙ over_plain t.0 (record_text before [] ++ t.2) at (plain_gap t.0 t.3)
    ∙ over_record before [] tt (omega arith) number (at + length t.0) t.2
    ∙ rw finished
    (ap (saved (at + length t.0 + (11 + 2 * 0))) (sym (append-nil t.2))
    ∙ over_plain t.2 [] (at + length t.0 + (11 + 2 * 0)) (plain_gap t.2 t.5)
    ∙ rw sizes)
sound_from (r ∷ rs) before at s t =
    let fit = t.4.0 in
    let w = r.first in
    let bs = r.bytes in
    let l = t.2 in
    let e : s ≡ t.0 ++ (record_text r.first r.bytes ++ t.2) = t.6 ∙ ap (λ (x : List ℕ). t.0 ++ (x ++ t.2)) t.4.1 in
    let kept = item_worth_stretch before (record_text r.first r.bytes ++ t.2) r
    (tape_lawful.data_read before r (record_text r.first r.bytes) t.2 (t.4.0, refl)) in
    let sizes : at + length t.0 + (11 + 2 * length r.bytes) + length t.2 ≡ at + length s =
    omega (arith, ap length e, length-append t.0 (record_text r.first r.bytes ++ t.2), length-append (record_text r.first r.bytes) t.2, text_size r.first r.bytes) in
    ap (saved at) e
    ∙ over_plain t.0 (record_text r.first r.bytes ++ t.2) at (plain_gap t.0 t.3)
    ∙ over_record r.first r.bytes fit.small fit.few (omega (arith, fit.inside, fit.some)) (at + length t.0) t.2
    ∙ rw (kept, sound_from rs (before + 1) (at + length t.0 + (11 + 2 * length r.bytes)) t.2 t.5, sizes)

-- Of a sound tape, in whatever spelling, every record is kept and none is dropped.
pub sound_kept : (s : List ℕ) (rs : List Stretch) → Tape rs s → saved 0 s ≡ record { records = rs; dropped = 0; first = length s }
sound_kept s rs t = let same : 0 + length s ≡ length s = omega arith in rw (← same) (sound_from rs 0 0 s t)
