-- Bytes, pages and addresses (manual, chapter 5), and the byte as a signed number (chapter 2).
use Rattle.std.specs.Prelude.{ℕ, ◌+◌, ◌-◌, ◌*◌, ◌/◌, ◌%◌, Bool, cond, ◌||◌, ltb, ℤ, pos, negsuc, neg_ℤ, ◌-ℤ◌}
use Rattle.std.specs.Int.Signed.{lt_z}

-- the low byte of a number: modulo 256; and the address that it names: modulo 65,536
abbrev pub low_byte : ℕ → ℕ
low_byte n = n % 256

abbrev pub address_of : ℕ → ℕ
address_of n = n % 65536

-- the high byte of an address
abbrev pub page : ℕ → ℕ
page p = p / 256

-- the address of a byte in a page; the zero page is 0, the stack's is 1, a pointer's high byte is the page that it leads to
abbrev pub joined : ℕ → ℕ → ℕ
joined high b = high * 256 + b

-- a byte as a signed number, minus 128 to 127
unfoldable pub signed : ℕ → ℤ
signed b = cond (ltb b 128) (pos b) (pos b -ℤ pos 256)

-- a signed number that no byte has
unfoldable pub outside : ℤ → Bool
outside z = lt_z z (neg_ℤ (pos 128)) || lt_z (pos 127) z

-- a signed number modulo 65,536 (negsuc n is minus n + 1)
unfoldable pub around : ℤ → ℕ
around (pos n) = n % 65536
around (negsuc n) = 65535 - n % 65536
