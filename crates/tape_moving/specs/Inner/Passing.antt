-- What one writing of the records gives.
use Rattle.std.specs.Prelude.{◌≡◌, ℕ, List, Result}
use Rattle.laws.specs.Answers.{not_refused}
use Rattle.text_writing.specs.Written.{Writes}
use Rattle.text_writing.specs.declared.Writer.{Writer}
use Rattle.tape_records.specs.Contents.{Contents}
use Rattle.tape_loading.specs.declared.Format.{Format}
use Rattle.tape_loading.specs.declared.Reach.{Reach}
use Rattle.tape_loading.specs.declared.Fault.{Fault}
use Rattle.tape_loading.specs.Answers.{verdict_of, verdict_in}
use Rattle.tape_moving.specs.Inner.Lines.{text_from}

-- the verdict, and the whole text if that is good
pub record Passed (to : Format) (s : List ℕ) (c : Contents) (w w' : Writer) (v : Result Reach Fault) : Type 0 where
  pub says : verdict_in v ≡ verdict_of s c
  pub writes : c.answer ≡ not_refused → Writes w (text_from to 0 c.records) w'
