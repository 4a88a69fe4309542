-- The formats, so that code which serves both has one promise.
use Rattle.std.specs.Prelude.{ℕ, List}
use Rattle.tape_records.specs.Contents.{Item, Contents, contents}
use Rattle.tape_paper.specs.Tapes.{tape_item}
use Rattle.tape_intel.specs.IntelHex.{hex_item}
use Rattle.tape_loading.specs.declared.Format.{Format}
use Rattle.tape_loading.specs.declared.Format.TheVariants.{Tape, Hex}

abbrev pub item_of : Format → ℕ → List ℕ → Item
item_of Tape before s = tape_item before s
item_of Hex before s = hex_item before s

abbrev pub contents_of : Format → List ℕ → Contents
contents_of f s = contents (item_of f) 0 0 s

-- how many bytes stand before the data
abbrev pub head_size : Format → ℕ
head_size Tape = 3
head_size Hex = 4
