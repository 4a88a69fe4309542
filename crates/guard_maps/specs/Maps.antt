-- What is guarded, and what the next step would touch of it: an address that is guarded against reads, by the rules' list (ReadList of
-- manual), or one that is guarded against stores (StoreList).
use Rattle.std.specs.Prelude.{ℕ, ◌/◌, ◌%◌, ◌^◌, Bool, false, cond, List, [], ◌∷◌, eqb, get_or, Option, Some, None}
use Rattle.laws.specs.Answers.{would_read, would_store}
use Rattle.manual.specs.declared.Lines.{Lines}
use Rattle.manual.specs.declared.Machine.{Machine}
use Rattle.manual.specs.ReadList.{listed_step_full}
use Rattle.manual.specs.StoreList.{stored_by_step_full}
use Rattle.guard_maps.specs.declared.Touch.{Touch}

-- ---- what is guarded

-- a map has a bit for each address
abbrev pub in_map : List ℕ → ℕ → Bool
in_map map a = eqb (get_or map (a / 8) 0 / 2 ^ (a % 8) % 2) 1

-- no address
abbrev pub nowhere : ℕ → Bool
nowhere a = false

-- ---- what the next step would touch

-- the first guarded address of a list
unfoldable pub first_in : (ℕ → Bool) → List ℕ → Option ℕ
first_in guards [] = None
first_in guards (a ∷ l) = cond (guards a) (Some a) (first_in guards l)

-- of what it would read, and only then of what it would store to
abbrev pub touching : Option ℕ → Option ℕ → Option Touch
touching (Some a) stored = Some (Touch.Read a)
touching None (Some a) = Some (Touch.Store a)
touching None None = None

abbrev pub ahead_of : (ℕ → Bool) → (ℕ → Bool) → Lines → Machine → List ℕ → Option Touch
ahead_of reads stores lines s m = touching (first_in reads (listed_step_full lines s m)) (first_in stores (stored_by_step_full lines s m))

-- the answer before such a step, and the address
abbrev pub touch_answer : Touch → ℕ
touch_answer (Touch.Read a) = would_read
touch_answer (Touch.Store a) = would_store

abbrev pub touch_place : Touch → ℕ
touch_place (Touch.Read a) = a
touch_place (Touch.Store a) = a
