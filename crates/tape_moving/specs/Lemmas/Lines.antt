-- Laws of the records as they are written: their parts and their lengths.
use Rattle.std.specs.Prelude.{◌≡◌, ℕ, ◌+◌, ◌-◌, ◌*◌, ◌/◌, ◌%◌, ◌<◌, ◌≤◌, List, [], ◌∷◌, ◌++◌, length, take, drop, refl}
use Rattle.std.proofs.Common.{ap, ◌∙◌, arith, length-append, take_at, drop-drop}
use Rattle.std.proofs.Math.Option.{Option, none, some}
use Rattle.text_reading.specs.Numbers.{nowhere}
use Rattle.laws.specs.Answers.{not_refused}
use Rattle.text_writing.specs.Written.{Writes}
use Rattle.text_writing.specs.declared.Writer.{Writer}
use Rattle.tape_records.specs.Records.{bytes_of, hexes}
use Rattle.tape_records.specs.Inner.Reading.{summed}
use Rattle.tape_records.specs.Lemmas.Places.{bytes_length}
use Rattle.tape_records.specs.Lemmas.Spelling.{bytes_back}
use Rattle.tape_records.specs.Theorems.Sums.{hexes_length}
use Rattle.tape_records.specs.Contents.{Stretch, Item}
use Rattle.tape_records.specs.Grammar.{Fits, Text, newline}
use Rattle.tape_records.specs.Inner.Lawful.{Lawful}
use Rattle.tape_records.specs.Theorems.Sound.{accepted_by_grammar}
use Rattle.tape_paper.specs.Tapes.{tape_item}
use Rattle.tape_paper.specs.Grammar.{sum_of, TapeData, TapeEnd}
use Rattle.tape_paper.specs.Lemmas.Lawful.{tape_lawful, text_size as tape_size}
use Rattle.tape_paper.specs.Theorems.Reading.{tape_records_lem}
use Rattle.tape_intel.specs.IntelHex.{hex_item}
use Rattle.tape_intel.specs.Grammar.{check, body, HexData, HexEnd}
use Rattle.tape_intel.specs.Lemmas.Lawful.{hex_lawful, text_size as hex-size}
use Rattle.tape_intel.specs.Theorems.Reading.{hex_records}
use Rattle.tape_loading.specs.declared.Format.{Format}
use Rattle.tape_loading.specs.declared.Format.TheVariants.{Tape, Hex}
use Rattle.tape_loading.specs.Inner.Formats.{contents_of}
use Rattle.tape_moving.specs.Inner.Lines.{record_in, end_of, text_from, line_of, sum_from}

line_by_parts : (f : Format) (w : ℕ) (bs : List ℕ) {n sum : ℕ} {digits : List ℕ} → length bs ≡ n → digits ≡ hexes bs → sum ≡ sum_of w bs
    → line_of f n w digits sum ≡ record_in f (record { first = w; bytes = bs }) ++ newline
line_by_parts Tape w bs h d e = rw (← h, d, e)
line_by_parts Hex w bs {n} {sum} h d e =
    let same : (256 - sum % 256) % 256 ≡ check (body 0 w bs) = omega arith in
    rw (same, ← h, d)

-- The record whose data stand at the start of a text.
pub its_line : (f : Format) (n w : ℕ) (l bs : List ℕ) → bytes_of n l ≡ some bs
    → line_of f n w (take (2 * n) l) (sum_from n w l) ≡ record_in f (record { first = w; bytes = bs }) ++ newline
its_line f n w l bs e =
    let size = bytes_length n l bs e in
    let digits : take (2 * n) l ≡ hexes bs =
    ap (take (2 * n)) (bytes_back n l bs e) ∙ take_at (hexes bs) (drop (2 * n) l) (2 * n) (omega (arith, hexes_length bs)) in
    let sums : sum_from n w l ≡ sum_of w bs =
    ap (λ (o : Option (List ℕ)). (n + w / 256 + w % 256 + (summed 0 1 o).value) % 65536) e ∙ omega arith in
    line_by_parts f w bs size digits sums

-- The same line by what the code has: the text from a place before the data on, and the part of the text that is the data.
pub line_here : (f : Format) (n w place : ℕ) (s : List ℕ) {t : List ℕ} {sum : ℕ} {v v' : Writer} → 0 < place → t ≡ drop (place - 1) s
    → sum ≡ sum_from n w (drop 1 t) → Writes v (line_of f n w (take (place + 2 * n - place) (drop place s)) sum) v'
    → Writes v (line_of f n w (take (2 * n) (drop place s)) (sum_from n w (drop place s))) v'
line_here f n w place s h r e wrote =
    let one : place - 1 + 1 ≡ place = omega arith in
    let two : place + 2 * n - place ≡ 2 * n = omega arith in
    rw (two, e, r, drop-drop 1 (place - 1) s, one) at wrote

-- A sum that is not found counts nothing.
pub lost_sum : (n : ℕ) (l : List ℕ) → n < 65536 → (summed 0 1 (bytes_of n l)).next ≡ nowhere → (summed 0 1 (bytes_of n l)).value ≡ 0
lost_sum n l h z = by_case (bytes_of n l) refl z
  where
    by_case : (o : Option (List ℕ)) → bytes_of n l ≡ o → (summed 0 1 o).next ≡ nowhere → (summed 0 1 o).value ≡ 0
    by_case none e f = refl
    by_case (some bs) e f = absurd (omega (arith, bytes_length n l bs e))

-- What is accepted has records that fit, and at most 65,535 of them.
pub accepted_records : (f : Format) (s : List ℕ) → (contents_of f s).answer ≡ not_refused
    → Fits (contents_of f s).records × (length (contents_of f s).records < 65536)
accepted_records Tape s z =
    let few = tape_records_lem (contents_of Tape s).records 0 s (accepted_by_grammar tape_item TapeData TapeEnd tape_lawful s z) in
    (few.0, omega (arith, few.1))
accepted_records Hex s z =
    let few = hex_records (contents_of Hex s).records 0 s (accepted_by_grammar hex_item HexData HexEnd hex_lawful s z) (omega arith) in
    (few.0, omega (arith, few.1))

-- a record has at most 523 characters with its CR LF, so that a text's end is no largest `usize`
record_size : (f : Format) (r : Stretch) → length (record_in f r) ≡ 11 + 2 * length r.bytes
record_size Tape r = tape_size r.first r.bytes
record_size Hex r = hex-size r.first r.bytes

end_size : (f : Format) (k : ℕ) → length (end_of f k) ≡ 13
end_size Tape k = refl
end_size Hex k = refl

pub text_length : (f : Format) (rs : List Stretch) (k : ℕ) → Fits rs → length (text_from f k rs) ≤ 523 * length rs + 13
text_length f [] k h = omega (arith, end_size f k)
text_length f (r ∷ rs) k h =
    omega (
      arith,
      text_length f rs (k + 1) h.1,
      record_size f r,
      h.0.few,
      length-append (record_in f r ++ newline) (text_from f (k + 1) rs),
      length-append (record_in f r) newline,
    )

-- A new text is at most twice as long as the given one, since a record has at least 11 characters and CR LF is two.
module _ (to : Format) (item : ℕ → List ℕ → Item) (Data : ℕ → Stretch → List ℕ → Type 0) (End : ℕ → List ℕ → Type 0) (lawful : Lawful item Data End) where
  pub twice_enough : (rs : List Stretch) (k : ℕ) (s : List ℕ) → Text Data End k rs s → length (text_from to k rs) ≤ 2 * length s
  twice_enough [] k s t =
      omega (
        arith,
        end_size to k,
        (lawful.end_placed k t.1 t.4).long,
        ap length t.6,
        length-append t.0 (t.1 ++ t.2),
        length-append t.1 t.2,
      )
  twice_enough (r ∷ rs) k s t =
      omega (
        arith,
        twice_enough rs (k + 1) t.2 t.5,
        record_size to r,
        (lawful.data_placed k r t.1 t.4).long,
        ap length t.6,
        length-append t.0 (t.1 ++ t.2),
        length-append t.1 t.2,
        length-append (record_in to r ++ newline) (text_from to (k + 1) rs),
        length-append (record_in to r) newline,
      )
