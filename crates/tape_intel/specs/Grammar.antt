-- The grammar of good Intel HEX: how its records are written.
use Rattle.std.specs.Prelude.{ℕ, ◌-◌, ◌/◌, ◌%◌, ◌<◌, ◌≡◌, List, ◌∷◌, ◌++◌, length}
use Rattle.laws.specs.Characters.{characters}
use Rattle.text_writing.specs.Numerals.{hex2, hex4}
use Rattle.tape_records.specs.Records.{total, hexes}
use Rattle.tape_records.specs.Contents.{Stretch}
use Rattle.tape_records.specs.Grammar.{Fit, Text, spelled}

-- count, address, type and data, and their check byte
abbrev pub body : ℕ → ℕ → List ℕ → List ℕ
body type w bs = length bs ∷ w / 256 ∷ w % 256 ∷ type ∷ bs

abbrev pub check : List ℕ → ℕ
check bs = (256 - total bs % 256) % 256

abbrev pub record_text : ℕ → List ℕ → List ℕ
record_text w bs = characters ":" ++ hex2 (length bs) ++ hex4 w ++ hex2 0 ++ hexes bs ++ hex2 (check (body 0 w bs))

abbrev pub end_text : List ℕ
end_text = characters ":00000001FF"

-- at most 65,535 data records
abbrev pub HexData : ℕ → Stretch → List ℕ → Type 0
HexData before r t = Fit r × (before < 65535) × (t ≡ record_text r.first r.bytes)

abbrev pub HexEnd : ℕ → List ℕ → Type 0
HexEnd before t = t ≡ end_text

-- s is Intel HEX with the data records rs
abbrev pub Hex : List Stretch → List ℕ → Type 0
Hex rs s = Text HexData HexEnd 0 rs s

-- HEX as it is written, after so many other data records
abbrev pub hex_text : ℕ → List Stretch → List ℕ
hex_text before rs = spelled (λ r. record_text r.first r.bytes) (λ k. end_text) before rs
