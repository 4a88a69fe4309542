-- The status of a log that was checked part by part.
use Rattle.std.specs.Prelude.{◌≡◌, ℕ, ◌≤◌, List, length, None}
use Rattle.text_reading.specs.Numbers.{nowhere}
use Rattle.statuses.specs.Statuses.{log_status, first_of}
use Rattle.trace_checking.specs.Checking.{checked_part}

-- by the check of the whole text
abbrev pub text_status : List ℕ → List ℕ → ℕ
text_status image text = log_status (length image) (checked_part None image text).0.answer (checked_part None image text).0.lines

-- some text was read, and this is its status, if nothing failed
abbrev pub Concludes : List ℕ → ℕ → ℕ → Type 0
Concludes image failed status = (t : List ℕ) × (length t ≤ nowhere → status ≡ first_of failed (text_status image t))

-- and is noted, if none was noted before that is not 0
abbrev pub Notes : ℕ → List ℕ → ℕ → ℕ → Type 0
Notes before image failed after = (t : List ℕ) × (length t ≤ nowhere → after ≡ first_of before (first_of failed (text_status image t)))
