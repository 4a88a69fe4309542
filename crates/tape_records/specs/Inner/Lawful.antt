-- What a format owes, and all that it owes.
use Rattle.std.specs.Prelude.{◌≡◌, ℕ, ◌+◌, ◌*◌, ◌<◌, false, List, ◌++◌, length, drop, slice_index}
use Rattle.tape_records.specs.Records.{separator}
use Rattle.tape_records.specs.Contents.{Stretch, Item, stretch, finish, bad}

-- a record's text as long as the contents take it to be, and no gap
pub record Placed (t : List ℕ) (size : ℕ) : Type 0 where
  pub starts : separator (slice_index t 0) ≡ false
  pub long : length t ≡ size

-- its records are read as they are written, and only what is written so is read
pub record Lawful (item : ℕ → List ℕ → Item) (Data : ℕ → Stretch → List ℕ → Type 0) (End : ℕ → List ℕ → Type 0) : Type 0 where
  pub data_placed : (k : ℕ) (r : Stretch) (d : List ℕ) → Data k r d → Placed d (11 + 2 * length r.bytes)
  pub data_read : (k : ℕ) (r : Stretch) (d s : List ℕ) → Data k r d → item k (d ++ s) ≡ stretch r
  pub data_back : (k : ℕ) (r : Stretch) (s : List ℕ) → item k s ≡ stretch r
      → (d : List ℕ) × Data k r d × (s ≡ d ++ drop (11 + 2 * length r.bytes) s)
  pub end_placed : (k : ℕ) (e : List ℕ) → End k e → Placed e 11
  pub end_read : (k : ℕ) (e s : List ℕ) → End k e → item k (e ++ s) ≡ finish
  pub end_back : (k : ℕ) (s : List ℕ) → item k s ≡ finish → (e : List ℕ) × End k e × (s ≡ e ++ drop 11 s)
  pub bad_back : (k : ℕ) (s : List ℕ) (reason : ℕ) → item k s ≡ bad reason → 0 < reason
