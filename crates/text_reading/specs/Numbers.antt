-- What stands at a place of a text: a digit, a number, a mark.
use Rattle.std.specs.Prelude.{ℕ, zero, suc, ◌+◌, ◌-◌, ◌*◌, ◌/◌, cond, List, [], ◌∷◌, eqb, ltb, length, get_or}
use Rattle.laws.specs.Characters.{characters}
use Rattle.text_reading.specs.declared.Reading.{Reading}

-- the place at which nothing is read
abbrev pub nowhere : ℕ
nowhere = 18446744073709551615

-- 0 to 9 and A to F, in the order of their values
abbrev pub digits : List ℕ
digits = characters "0123456789ABCDEF"

-- where a character first stands in a list; the list's length if it does not
abbrev pub place_in : List ℕ → ℕ → ℕ
place_in [] b = 0
place_in (d ∷ ds) b = cond (eqb b d) 0 (suc (place_in ds b))

-- the value of a digit, 16 for any other character
unfoldable pub digit_value : ℕ → ℕ
digit_value b = place_in digits b

abbrev pub no_digit : Reading ℕ
no_digit = record { value = 0; next = nowhere }

-- a digit of a base
unfoldable pub digit_at : ℕ → List ℕ → ℕ → Reading ℕ
digit_at base s at =
    cond (ltb at (length s))
    (cond (ltb (digit_value (get_or s at 0)) base) (record { value = digit_value (get_or s at 0); next = at + 1 }) no_digit)
    no_digit

-- two hexadecimal digits, and four
unfoldable pub byte_at : List ℕ → ℕ → Reading ℕ
byte_at s at =
    let high = digit_at 16 s at in
    let low = digit_at 16 s high.next in
    record { value = high.value * 16 + low.value; next = low.next }

unfoldable pub word_at : List ℕ → ℕ → Reading ℕ
word_at s at =
    let high = byte_at s at in
    let low = byte_at s high.next in
    record { value = high.value * 256 + low.value; next = low.next }

-- at most n more decimal digits after those of v; a number of more than 64 bits is none
unfoldable pub count_from : ℕ → List ℕ → ℕ → ℕ → Reading ℕ
count_from zero s at v = record { value = v; next = at }
count_from (suc n) s at v =
    let d = digit_at 10 s at in
    cond (eqb d.next nowhere) (record { value = v; next = at })
    (cond (ltb ((18446744073709551615 - d.value) / 10) v) (record { value = 0; next = nowhere })
    (count_from n s d.next (v * 10 + d.value)))

-- a decimal number of 1 to 20 digits
unfoldable pub count_at : List ℕ → ℕ → Reading ℕ
count_at s at = let d = digit_at 10 s at in count_from 19 s d.next d.value

-- the place after a character
unfoldable pub mark_at : ℕ → List ℕ → ℕ → ℕ
mark_at mark s at = cond (ltb at (length s)) (cond (eqb (get_or s at 0) mark) (at + 1) nowhere) nowhere

-- a text that is one number and nothing else
unfoldable pub whole_word : List ℕ → Reading ℕ
whole_word s = let w = word_at s 0 in cond (eqb w.next (length s)) w (record { value = 0; next = nowhere })

unfoldable pub whole_count : List ℕ → Reading ℕ
whole_count s = let n = count_at s 0 in cond (eqb n.next (length s)) n (record { value = 0; next = nowhere })
