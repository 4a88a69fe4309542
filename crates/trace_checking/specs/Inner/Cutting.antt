-- Where a text can be cut so that what stands before the cut are whole entries.
use Rattle.std.specs.Prelude.{ℕ, zero, suc, cond, List, eqb, length, get_or}

-- the place after the last LF among the first n characters; 0 if there is none
unfoldable pub end_before : ℕ → List ℕ → ℕ
end_before zero s = 0
end_before (suc n) s = cond (eqb (get_or s n 0) 10) (suc n) (end_before n s)

abbrev pub whole_end : List ℕ → ℕ
whole_end s = end_before (length s) s
