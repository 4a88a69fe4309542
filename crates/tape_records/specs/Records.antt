-- A record of a paper tape or of Intel HEX: a mark, then bytes of two capital hexadecimal digits each. The first byte is the number of data
-- bytes, the next two are the address, and besides these and the data there are two bytes more. What they say, each format has for itself.
use Rattle.std.specs.Prelude.{ℕ, zero, suc, ◌+◌, ◌*◌, ◌%◌, ◌<◌, Bool, true, false, cond, List, [], ◌∷◌, ◌++◌, take, drop, ◌==◌, nat_lt, slice_index}
use Rattle.std.proofs.Math.Option.{Option, none, some}
use Rattle.text_reading.specs.Numbers.{digit_value}
use Rattle.text_writing.specs.Numerals.{hex2}

-- the byte that the first two characters of a text say
abbrev pub byte_of : List ℕ → Option ℕ
byte_of [] = none
byte_of (high ∷ []) = none
byte_of (high ∷ low ∷ s) =
    cond (nat_lt (digit_value high) 16) (cond (nat_lt (digit_value low) 16) (some (digit_value high * 16 + digit_value low)) none) none

abbrev pub before : Option ℕ → Option (List ℕ) → Option (List ℕ)
before none bytes = none
before (some b) none = none
before (some b) (some bs) = some (b ∷ bs)

-- the first n bytes of a text
abbrev pub bytes_of : ℕ → List ℕ → Option (List ℕ)
bytes_of zero s = some []
bytes_of (suc n) s = before (byte_of s) (bytes_of n (drop 2 s))

abbrev pub counted : Option ℕ → List ℕ → Option (List ℕ)
counted none s = none
counted (some n) s = bytes_of (n + 5) s

-- all bytes of the record with which a text begins, and none if it is malformed or cut short
unfoldable pub record_of : ℕ → List ℕ → Option (List ℕ)
record_of mark [] = none
record_of mark (c ∷ s) = cond (c == mark) (counted (byte_of s) s) none

-- a number of two bytes, the high one first
abbrev pub word : List ℕ → ℕ
word bs = slice_index bs 0 * 256 + slice_index bs 1

abbrev pub total : List ℕ → ℕ
total [] = 0
total (b ∷ bs) = b + total bs

-- the parts of a record, by its bytes
abbrev pub count : List ℕ → ℕ
count bs = slice_index bs 0

abbrev pub address : List ℕ → ℕ
address bs = word (drop 1 bs)

-- the sum of all bytes but the last two, and these
abbrev pub sum : List ℕ → ℕ
sum bs = total (take (count bs + 3) bs) % 65536

abbrev pub last : List ℕ → ℕ
last bs = word (drop (count bs + 3) bs)

-- what may stand between records: CR, LF and NUL
unfoldable pub separator : ℕ → Bool
separator c = cond (c == 13) true (cond (c == 10) true (c == 0))

abbrev pub only_separators : List ℕ → Bool
only_separators [] = true
only_separators (c ∷ s) = cond (separator c) (only_separators s) false

-- bytes are below 256
abbrev pub Bytes : List ℕ → Type 0
Bytes [] = Unit
Bytes (b ∷ bs) = (b < 256) × Bytes bs

-- bytes as text
abbrev pub hexes : List ℕ → List ℕ
hexes [] = []
hexes (b ∷ bs) = hex2 b ++ hexes bs
