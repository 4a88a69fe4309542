-- The listing of a stretch of memory.
use Rattle.std.specs.Prelude.{ℕ, suc, ◌-◌, cond, not, List, eqb, ltb, length}
use Rattle.laws.specs.Answers.{memory_not_full, first_above_last}
use Rattle.manual.specs.Stepping.{full_memory}
use Rattle.text_writing.specs.Delivered.{Delivered, refused, delivered}
use Rattle.listing.specs.Lines.{lines, texts}

-- its text, to the last address
unfoldable pub listing : List ℕ → ℕ → ℕ → List ℕ
listing m first last = texts (lines m first (suc (last - first)) 0)

-- the most characters that it has: a line for each byte of the whole memory, `per_byte` characters each
abbrev pub longest_listing : ℕ
longest_listing = 917504

-- the text in a buffer, with the refusals in their order
unfoldable pub listing_into : List ℕ → ℕ → ℕ → List ℕ → Delivered
listing_into m first last buffer =
    cond (not (eqb (length m) full_memory)) (refused memory_not_full buffer)
    (cond (ltb last first) (refused first_above_last buffer) (delivered (listing m first last) buffer))
