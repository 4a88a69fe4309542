-- A text of records, whatever their format: what it says, and what that leaves in a memory.
use Rattle.std.specs.Prelude.{ℕ, zero, suc, ◌+◌, ◌-◌, ◌*◌, cond, not, List, [], ◌∷◌, length, drop, ◌==◌}
use Rattle.std.proofs.lemmas.List.Edits.{sets}
use Rattle.laws.specs.Answers.{not_refused, memory_not_full, malformed_record, no_end}
use Rattle.manual.specs.Stepping.{full_memory}
use Rattle.tape_records.specs.Records.{separator}

-- a data record: where its bytes go, and the bytes
pub record Stretch : Type 0 where
  pub first : ℕ
  pub bytes : List ℕ

-- what a record is: data, the end record, or bad for a reason
pub data Item : Type 0 where
  stretch : Stretch → Item
  finish : Item
  bad : ℕ → Item

-- the data records up to the first bad record, and its reason, 0 if none is bad; how many good records stand before it, the end record
-- counted too, and how many characters there are from it on
pub record Contents : Type 0 where
  pub records : List Stretch
  pub answer : ℕ
  pub good : ℕ
  pub left : ℕ

abbrev pub stop : ℕ → ℕ → ℕ → Contents
stop reason good left = record { records = []; answer = reason; good = good; left = left }

abbrev pub and_then : Stretch → Contents → Contents
and_then r c = record { records = r ∷ c.records; answer = c.answer; good = c.good; left = c.left }

-- what follows the end record: separators alone, or a stray character
abbrev pub ended : ℕ → List ℕ → Contents
ended good [] = stop not_refused good 0
ended good (c ∷ s) = cond (separator c) (ended good s) (stop malformed_record good (length (c ∷ s)))

-- the contents from a record on, which has 11 characters and two for each data byte, after `count` data records; `more n` is what follows, n
-- characters being passed over
abbrev pub judged : Item → ℕ → List ℕ → (ℕ → Contents) → Contents
judged (bad reason) count s more = stop reason count (length s)
judged finish count s more = ended (count + 1) (drop 11 s)
judged (stretch r) count s more = and_then r (more (10 + 2 * length r.bytes))

-- the contents from here on. The first `passed` characters belong to a record that is read, and `count` data records stand before; `item`
-- is the format: what the record at the head of a text is, after so many data records
abbrev pub contents : (ℕ → List ℕ → Item) → ℕ → ℕ → List ℕ → Contents
contents item passed count [] = stop no_end count 0
contents item (suc passed) count (c ∷ s) = contents item passed count s
contents item zero count (c ∷ s) =
    cond (separator c) (contents item 0 count s) (judged (item count (c ∷ s)) count (c ∷ s) (λ passed. contents item passed (count + 1) s))

-- records laid onto a memory, a later one over an earlier one
abbrev pub laid : List Stretch → List ℕ → List ℕ
laid [] m = m
laid (r ∷ rs) m = laid rs (sets m r.first r.bytes)

-- what a reader answers, and the memory that it leaves: the answer, how many good records stand before the first bad one, and where that
-- begins, the text's length if there is none
pub record Loaded : Type 0 where
  pub answer : ℕ
  pub good : ℕ
  pub place : ℕ
  pub memory : List ℕ

abbrev pub outcome : List ℕ → Contents → List ℕ → Loaded
outcome s c m = record { answer = c.answer; good = c.good; place = length s - c.left; memory = m }

-- the text s with the contents c read onto a memory, which is left as it was unless all is good
abbrev pub read_onto : List ℕ → Contents → List ℕ → Loaded
read_onto s c m =
    cond (not (length m == full_memory)) (record { answer = memory_not_full; good = 0; place = 0; memory = m })
    (outcome s c (cond (c.answer == not_refused) (laid c.records m) m))
