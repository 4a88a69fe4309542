-- Intel HEX, types 00 and 01. A record is `:`, byte count, address, type, data, and a check byte that makes the sum of all bytes 0 modulo
-- 256. Type 00 is data. Type 01 is the end record, which has one spelling, `:00000001FF`. The answers at the first bad record, tested in
-- this order:
--   5  malformed, cut short, or a stray character; another type; a data record without data
--   6  a wrong sum; but another end record with the right sum is 5
--   7  data past FFFF
--   8  a 65,536th data record, or no end record
use Rattle.std.specs.Prelude.{ℕ, ◌+◌, ◌%◌, Bool, cond, not, List, eqb, ltb, get_or, take, drop}
use Rattle.std.proofs.Math.Option.{Option, none, some}
use Rattle.laws.specs.Answers.{malformed_record, wrong_sum, past_the_end, no_end}
use Rattle.tape_records.specs.Records.{record_of, count, address, total}
use Rattle.tape_records.specs.Contents.{Item, stretch, finish, bad, Contents, contents, Loaded, read_onto}

abbrev pub type : List ℕ → ℕ
type bs = get_or bs 3 0

abbrev pub right_sum : List ℕ → Bool
right_sum bs = eqb (total bs % 256) 0

-- a record of type 00, after so many data records
abbrev pub data_item : ℕ → List ℕ → Item
data_item before bs =
    cond (eqb (count bs) 0) (bad malformed_record)
    (cond (not (right_sum bs)) (bad wrong_sum)
    (cond (ltb 65536 (address bs + count bs)) (bad past_the_end)
    (cond (ltb before 65535) (stretch (record { first = address bs; bytes = take (count bs) (drop 4 bs) })) (bad no_end))))

-- one of type 01
abbrev pub end_item : List ℕ → Item
end_item bs = cond (not (right_sum bs)) (bad wrong_sum) (cond (eqb (count bs) 0) (cond (eqb (address bs) 0) finish (bad malformed_record)) (bad malformed_record))

-- a record's bytes
abbrev pub judge : ℕ → Option (List ℕ) → Item
judge before none = bad malformed_record
judge before (some bs) = cond (eqb (type bs) 0) (data_item before bs) (cond (eqb (type bs) 1) (end_item bs) (bad malformed_record))

-- `:` is the character 58
unfoldable pub hex_item : ℕ → List ℕ → Item
hex_item before s = judge before (record_of 58 s)

unfoldable pub hex_of : List ℕ → Contents
hex_of s = contents hex_item 0 0 s

-- HEX read onto a memory
unfoldable pub read_hex : List ℕ → List ℕ → Loaded
read_hex s m = read_onto s (hex_of s) m
