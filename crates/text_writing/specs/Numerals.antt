-- Numbers written in characters: two or four capital hexadecimal digits, or decimal with no leading zero.
use Rattle.std.specs.Prelude.{◌≡◌, refl, cond, List, [], ◌∷◌, ◌++◌, ℕ, zero, suc, ◌/◌, ◌%◌, ltb, get_or}
use Rattle.laws.specs.Characters.{characters}

unfoldable pub digit : ℕ → ℕ
digit d = get_or (characters "0123456789ABCDEF") d 0

-- a byte, and an address
abbrev pub hex2 : ℕ → List ℕ
hex2 b = digit (b / 16) ∷ digit (b % 16) ∷ []

abbrev pub hex4 : ℕ → List ℕ
hex4 w = hex2 (w / 256) ++ hex2 (w % 256)

-- the digits of a tenth and then the last one; the first number only bounds how many there are
unfoldable pub digits : ℕ → ℕ → List ℕ
digits zero n = digit n ∷ []
digits (suc k) n = cond (ltb n 10) (digit n ∷ []) (digits k (n / 10) ++ digit (n % 10) ∷ [])

unfoldable pub decimal : ℕ → List ℕ
decimal n = digits n n

-- a field of a line: a space stands before it
abbrev pub spaced : List ℕ → List ℕ
spaced t = characters " " ++ t

examples : decimal 0 ++ spaced (decimal 1024) ++ spaced (hex4 0xFFFC) ++ spaced (hex2 0x0A) ≡ characters "0 1024 FFFC 0A"
unfolding decimal digits digit
examples = refl
