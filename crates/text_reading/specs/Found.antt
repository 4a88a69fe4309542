-- What the code answers of what is read: none where the next place is nowhere.
use Rattle.std.specs.Prelude.{ℕ, cond, eqb, Option, Some, None}
use Rattle.text_reading.specs.declared.Reading.{Reading}
use Rattle.text_reading.specs.Numbers.{nowhere}

-- a number, and the place after it
unfoldable pub found : Reading ℕ → Option (Reading ℕ)
found r = cond (eqb r.next nowhere) None (Some r)

-- the number alone
unfoldable pub value_found : Reading ℕ → Option ℕ
value_found r = cond (eqb r.next nowhere) None (Some r.value)

-- a place alone
unfoldable pub place_found : ℕ → Option ℕ
place_found next = cond (eqb next nowhere) None (Some next)
