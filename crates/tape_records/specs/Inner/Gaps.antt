-- The gap before a record: CR, LF and NUL, any number of them.
use Rattle.std.specs.Prelude.{ℕ, suc, ◌+◌, cond, List, [], ◌∷◌, drop}
use Rattle.tape_records.specs.Records.{separator}

-- how many separators a text begins with
abbrev pub gap_length : List ℕ → ℕ
gap_length [] = 0
gap_length (c ∷ s) = cond (separator c) (suc (gap_length s)) 0

-- where the gap ends that begins at a place
abbrev pub gap_end : List ℕ → ℕ → ℕ
gap_end s at = at + gap_length (drop at s)
