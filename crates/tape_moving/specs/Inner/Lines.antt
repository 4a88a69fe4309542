-- The records as they are written, in either format.
use Rattle.std.specs.Prelude.{ℕ, ◌+◌, ◌-◌, ◌/◌, ◌%◌, List, [], ◌++◌}
use Rattle.laws.specs.Characters.{characters}
use Rattle.text_writing.specs.Numerals.{hex2, hex4}
use Rattle.tape_records.specs.Records.{bytes_of}
use Rattle.tape_records.specs.Inner.Reading.{summed}
use Rattle.tape_records.specs.Contents.{Stretch}
use Rattle.tape_records.specs.Grammar.{newline, spelled}
use Rattle.tape_paper.specs.Grammar.{record_text as tapeRecord}
use Rattle.tape_intel.specs.Grammar.{record_text as hexRecord, end_text}
use Rattle.tape_loading.specs.declared.Format.{Format}
use Rattle.tape_loading.specs.declared.Format.TheVariants.{Tape, Hex}
use Rattle.tape_loading.specs.Inner.Formats.{contents_of}
use Rattle.tape_moving.specs.Moving.{Outcome, moved_as}

abbrev pub record_in : Format → Stretch → List ℕ
record_in Tape r = tapeRecord r.first r.bytes
record_in Hex r = hexRecord r.first r.bytes

abbrev pub end_in : Format → ℕ → List ℕ
end_in Tape k = tapeRecord k []
end_in Hex k = end_text

abbrev pub end_of : Format → ℕ → List ℕ
end_of f k = end_in f k ++ newline

abbrev pub text_from : Format → ℕ → List Stretch → List ℕ
text_from f before rs = spelled (record_in f) (end_in f) before rs

unfoldable pub moved : Format → Format → List ℕ → List ℕ → Outcome
moved from to s buffer = moved_as s (contents_of from s) (text_from to 0 (contents_of from s).records) buffer

-- a record by its parts: count, address, the data's digits, and the sum of these bytes
abbrev pub tape_line : ℕ → ℕ → List ℕ → ℕ → List ℕ
tape_line n w digits sum = characters ";" ++ hex2 n ++ hex4 w ++ digits ++ hex4 sum ++ newline

abbrev pub hex_line : ℕ → ℕ → List ℕ → ℕ → List ℕ
hex_line n w digits sum = characters ":" ++ hex2 n ++ hex4 w ++ hex2 0 ++ digits ++ hex2 ((256 - sum % 256) % 256) ++ newline

abbrev pub line_of : Format → ℕ → ℕ → List ℕ → ℕ → List ℕ
line_of Tape n w digits sum = tape_line n w digits sum
line_of Hex n w digits sum = hex_line n w digits sum

-- the sum as it is made from the text, at whose start n data bytes stand
abbrev pub sum_from : ℕ → ℕ → List ℕ → ℕ
sum_from n w l = (n + w / 256 + w % 256 + (summed 0 1 (bytes_of n l)).value) % 65536
