-- What the code tells of a record of Intel HEX.
use Rattle.std.specs.Prelude.{ℕ, ◌+◌, ◌/◌, ◌%◌, Bool, cond, not, eqb, ltb}
use Rattle.laws.specs.Answers.{malformed_record, wrong_sum, past_the_end, no_end}
use Rattle.tape_records.specs.declared.Parts.{Parts}
use Rattle.tape_records.specs.Inner.Items.{Told}
use Rattle.tape_records.specs.Inner.Items.{Data, End, Bad}

-- by the numbers that the code has
abbrev pub sum_right : Parts → Bool
sum_right p = eqb ((p.sum % 256 + p.last / 256 + p.last % 256) % 256) 0

abbrev pub told_data : ℕ → Parts → Told
told_data before p =
    cond (eqb p.head.count 0) (Bad malformed_record)
    (cond (not (sum_right p)) (Bad wrong_sum)
    (cond (ltb 65536 (p.head.address + p.head.count)) (Bad past_the_end)
    (cond (ltb before 65535) (Data p.head.address p.head.count) (Bad no_end))))

abbrev pub told_end : Parts → Told
told_end p = cond (not (sum_right p)) (Bad wrong_sum) (cond (eqb p.head.count 0) (cond (eqb p.head.address 0) End (Bad malformed_record)) (Bad malformed_record))

-- and by the byte that is its type
abbrev pub told_by : ℕ → ℕ → Parts → Told
told_by before kind p = cond (eqb kind 0) (told_data before p) (cond (eqb kind 1) (told_end p) (Bad malformed_record))
