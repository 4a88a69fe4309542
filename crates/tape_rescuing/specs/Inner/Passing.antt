-- What one writing of the saved records gives.
use Rattle.std.specs.Prelude.{◌<◌, ◌≡◌, length}
use Rattle.text_writing.specs.Written.{Writes}
use Rattle.text_writing.specs.declared.Writer.{Writer}
use Rattle.tape_paper.specs.Grammar.{tape_text}
use Rattle.tape_rescuing.specs.declared.Tally.{Tally}
use Rattle.tape_rescuing.specs.Rescuing.{Saved}

-- the counts and the offset, and the whole text if an end record fits
pub record Passed (x : Saved) (w w' : Writer) (p : Tally) : Type 0 where
  pub keeps : p.kept ≡ length x.records
  pub drops : p.dropped ≡ x.dropped
  pub begins : p.first ≡ x.first
  pub writes : p.kept < 65536 → Writes w (tape_text 0 x.records) w'
