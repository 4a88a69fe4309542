-- The grammar of a good tape: how its records are written.
use Rattle.std.specs.Prelude.{ℕ, ◌/◌, ◌%◌, ◌<◌, ◌≡◌, List, [], ◌∷◌, ◌++◌, length}
use Rattle.laws.specs.Characters.{characters}
use Rattle.text_writing.specs.Numerals.{hex2, hex4}
use Rattle.tape_records.specs.Records.{total, hexes}
use Rattle.tape_records.specs.Contents.{Stretch}
use Rattle.tape_records.specs.Grammar.{Fit, Text, spelled}

-- count, address and data, and their sum
abbrev pub body : ℕ → List ℕ → List ℕ
body w bs = length bs ∷ w / 256 ∷ w % 256 ∷ bs

abbrev pub sum_of : ℕ → List ℕ → ℕ
sum_of w bs = total (body w bs) % 65536

abbrev pub record_text : ℕ → List ℕ → List ℕ
record_text w bs = characters ";" ++ hex2 (length bs) ++ hex4 w ++ hexes bs ++ hex4 (sum_of w bs)

-- the end record is one without data, which has the number of data records for its address
abbrev pub TapeData : ℕ → Stretch → List ℕ → Type 0
TapeData before r t = Fit r × (t ≡ record_text r.first r.bytes)

abbrev pub TapeEnd : ℕ → List ℕ → Type 0
TapeEnd before t = (before < 65536) × (t ≡ record_text before [])

-- s is a tape with the data records rs
abbrev pub Tape : List Stretch → List ℕ → Type 0
Tape rs s = Text TapeData TapeEnd 0 rs s

-- a tape as it is written, after so many other data records
abbrev pub tape_text : ℕ → List Stretch → List ℕ
tape_text before rs = spelled (λ r. record_text r.first r.bytes) (λ k. record_text k []) before rs
