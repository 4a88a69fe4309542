-- MOS paper tape, as in the KIM-1 manual. A record is `;`, byte count, address, data, and the sum of all these bytes in 16 bits. The end
-- record has the count 00 and, for the address, the number of data records. The answers at the first bad record, tested in this order:
--   5  malformed, cut short, or a stray character
--   6  a wrong sum
--   7  data past FFFF
--   8  a wrong number of data records, or no end record
use Rattle.std.specs.Prelude.{ℕ, ◌+◌, Bool, cond, not, List, eqb, ltb, take, drop}
use Rattle.std.proofs.Math.Option.{Option, none, some}
use Rattle.laws.specs.Answers.{malformed_record, wrong_sum, past_the_end, no_end}
use Rattle.tape_records.specs.Records.{record_of, count, address, sum, last}
use Rattle.tape_records.specs.Contents.{Item, stretch, finish, bad, Contents, contents, Loaded, read_onto}

-- the last two bytes are the sum of the others
abbrev pub right_sum : List ℕ → Bool
right_sum bs = eqb (sum bs) (last bs)

-- a record's bytes, after so many data records
abbrev pub judge : ℕ → Option (List ℕ) → Item
judge before none = bad malformed_record
judge before (some bs) =
    cond (not (right_sum bs)) (bad wrong_sum)
    (cond (eqb (count bs) 0) (cond (eqb (address bs) before) finish (bad no_end))
    (cond (ltb 65536 (address bs + count bs)) (bad past_the_end)
    (stretch (record { first = address bs; bytes = take (count bs) (drop 3 bs) }))))

-- `;` is the character 59
unfoldable pub tape_item : ℕ → List ℕ → Item
tape_item before s = judge before (record_of 59 s)

unfoldable pub tape_of : List ℕ → Contents
tape_of s = contents tape_item 0 0 s

-- a tape read onto a memory
unfoldable pub read_tape : List ℕ → List ℕ → Loaded
read_tape s m = read_onto s (tape_of s) m
