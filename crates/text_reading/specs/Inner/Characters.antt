-- A character, and the value of one, as the code reads them.
use Rattle.std.specs.Prelude.{ℕ, ◌+◌, cond, eqb, ltb, List, length, get_or, Option, Some, None}
use Rattle.text_reading.specs.declared.Reading.{Reading}
use Rattle.text_reading.specs.Numbers.{no_digit, digit_value}

-- the character at a place
abbrev pub character_at : List ℕ → ℕ → Reading ℕ
character_at s at = cond (ltb at (length s)) (record { value = get_or s at 0; next = at + 1 }) no_digit

-- the value of a digit; 16 is none
abbrev pub digit_found : ℕ → Option ℕ
digit_found v = cond (eqb v 16) None (Some v)

-- the value of the digit at a place
abbrev pub digit_worth : List ℕ → ℕ → Option ℕ
digit_worth s at = cond (ltb at (length s)) (digit_found (digit_value (get_or s at 0))) None
