-- The grammar of a good text of records, and the one spelling in which a text is written. A format gives the texts of a data record and of an
-- end record, after so many data records.
use Rattle.std.specs.Prelude.{◌≡◌, ℕ, ◌+◌, ◌<◌, ◌≤◌, true, List, [], ◌∷◌, ◌++◌, length}
use Rattle.laws.specs.Characters.{characters}
use Rattle.tape_records.specs.Records.{Bytes, only_separators}
use Rattle.tape_records.specs.Contents.{Stretch}

-- 1 to 255 bytes, none past FFFF
pub record Fit (r : Stretch) : Type 0 where
  pub small : Bytes r.bytes
  pub some : 0 < length r.bytes
  pub few : length r.bytes < 256
  pub inside : r.first + length r.bytes ≤ 65536

abbrev pub Fits : List Stretch → Type 0
Fits [] = Unit
Fits (r ∷ rs) = Fit r × Fits rs

abbrev pub Gap : List ℕ → Type 0
Gap g = only_separators g ≡ true

module _ (Data : ℕ → Stretch → List ℕ → Type 0) (End : ℕ → List ℕ → Type 0) where
  -- s is the rest of a text, with the data records rs, after so many others: a gap and a data record each, then a gap, the end record, a gap
  abbrev pub Text : ℕ → List Stretch → List ℕ → Type 0
  Text before [] s = (g : List ℕ) × (e : List ℕ) × (h : List ℕ) × Gap g × End before e × Gap h × (s ≡ g ++ (e ++ h))
  Text before (r ∷ rs) s = (g : List ℕ) × (d : List ℕ) × (t : List ℕ) × Gap g × Data before r d × Text (before + 1) rs t × (s ≡ g ++ (d ++ t))

abbrev pub newline : List ℕ
newline = characters "\r\n"

module _ (dataText : Stretch → List ℕ) (end_text : ℕ → List ℕ) where
  -- the one spelling: CR LF after each record, and nothing else between them
  abbrev pub spelled : ℕ → List Stretch → List ℕ
  spelled before [] = end_text before ++ newline
  spelled before (r ∷ rs) = dataText r ++ newline ++ spelled (before + 1) rs
