-- What the code tells of a record, whatever its format.
use Rattle.std.specs.Prelude.{ℕ, length, Result, Ok, Err}
use Rattle.laws.specs.declared.answers.Refusal.{Refusal}
use Rattle.laws.specs.Answers.{answer_of}
use Rattle.tape_records.specs.Contents.{Item, stretch, finish, bad}
use Rattle.tape_records.specs.declared.Item.{Item as Good}
use Rattle.tape_records.specs.declared.Item.TheVariants.{Data as GoodData, End as GoodEnd}

-- a data record's address and how many bytes it has, the end record, or a bad one's reason
pub data Told : Type 0 where
  Data : ℕ → ℕ → Told
  End : Told
  Bad : ℕ → Told

abbrev pub told : Item → Told
told (bad reason) = Bad reason
told finish = End
told (stretch r) = Data r.first (length r.bytes)

-- the same of what the code answers
abbrev pub told_in : Result Good Refusal → Told
told_in (Ok (GoodData head)) = Data head.address head.count
told_in (Ok GoodEnd) = End
told_in (Err reason) = Bad (answer_of reason)
