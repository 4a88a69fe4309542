-- What the code tells of a record of a tape.
use Rattle.std.specs.Prelude.{ℕ, ◌+◌, cond, not, eqb, ltb}
use Rattle.laws.specs.Answers.{wrong_sum, past_the_end, no_end}
use Rattle.tape_records.specs.declared.Parts.{Parts}
use Rattle.tape_records.specs.Inner.Items.{Told}
use Rattle.tape_records.specs.Inner.Items.{Data, End, Bad}

-- by the numbers that the code has
abbrev pub told_by : ℕ → Parts → Told
told_by before p =
    cond (not (eqb p.sum p.last)) (Bad wrong_sum)
    (cond (eqb p.head.count 0) (cond (eqb p.head.address before) End (Bad no_end))
    (cond (ltb 65536 (p.head.address + p.head.count)) (Bad past_the_end) (Data p.head.address p.head.count)))
