-- A text of either kind, by the mark of its first record.
use Rattle.std.specs.Prelude.{ℕ, cond, List, [], ◌∷◌, eqb}
use Rattle.tape_records.specs.Records.{separator}
use Rattle.tape_records.specs.Contents.{Loaded}
use Rattle.tape_paper.specs.Tapes.{read_tape}
use Rattle.tape_intel.specs.IntelHex.{read_hex}
use Rattle.tape_loading.specs.declared.Format.{Format}
use Rattle.tape_loading.specs.declared.Format.TheVariants.{Tape, Hex}

-- the first character that is no separator, 0 if there is none
abbrev pub first_mark : List ℕ → ℕ
first_mark [] = 0
first_mark (c ∷ s) = cond (separator c) (first_mark s) c

-- HEX if that is `:`, the character 58. Any other text is read as a tape, which refuses what has no `;` there.
abbrev pub format_of : List ℕ → Format
format_of s = cond (eqb (first_mark s) 58) Hex Tape

unfoldable pub read_text : List ℕ → List ℕ → Loaded
read_text s m = cond (eqb (first_mark s) 58) (read_hex s m) (read_tape s m)
