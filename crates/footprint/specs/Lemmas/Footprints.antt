-- Laws that the code's proofs cite.
use Rattle.std.specs.Prelude.{◌≡◌, ℕ, ◌<◌, ◌≤◌, cond, List, [], ◌∷◌, nat_lt, slice_index, Option, None}
use Rattle.std.proofs.Common.{ap, ◌∙◌, lt-ltb, le-ltb}
use Rattle.registers.specs.declared.Registers.{Registers}
use Rattle.manual.specs.declared.Lines.{Lines}
use Rattle.manual.specs.declared.Machine.{Machine}
use Rattle.instruction.specs.Opcodes.{decoded}
use Rattle.manual.specs.Interrupts.{due}
use Rattle.manual.specs.Stepping.{highest_count}
use Rattle.manual.specs.ReadList.{listed_entry, listed_due, listed_step_full}
use Rattle.manual.specs.StoreList.{stored_by_entry, stored_by_due, stored_by_step_full}
use Rattle.footprint.specs.declared.ways.Reading.{Reading}
use Rattle.footprint.specs.declared.ways.Storing.{Storing}
use Rattle.footprint.specs.Places.{footprint_of}
use Rattle.footprint.specs.Inner.Ways.{Way, read_by, stored_by, ReadsBy, StoresBy}

-- ---- by the way of the byte at the counter

module _ (r : Registers) (m : List ℕ) (opcode : ℕ) (e : opcode ≡ slice_index m r.counter) where
  pub quiet_list : (way : Reading) → ReadsBy way opcode → footprint_of (r.counter ∷ read_by way r m) ≡ footprint_of (listed_due None r m)
  quiet_list way by =
      ap (λ (w : Way). footprint_of (r.counter ∷ w r m)) by
      ∙ ap (λ (k : ℕ). footprint_of (r.counter ∷ listed_entry (decoded k) r m)) e

  pub quiet_stores : (way : Storing) → StoresBy way opcode → footprint_of (stored_by way r m) ≡ footprint_of (stored_by_due None r m)
  quiet_stores way by = ap (λ (w : Way). footprint_of (w r m)) by ∙ ap (λ (k : ℕ). footprint_of (stored_by_entry (decoded k) r m)) e

-- ---- the tests of a step in their order

pub late_list : (s : Machine) (l : List ℕ) → highest_count < s.cycles → cond (nat_lt highest_count s.cycles) [] l ≡ []
late_list s l h = simp (lt-ltb _ _ h)

module _ (lines : Lines) (s : Machine) (m : List ℕ) (d : Option ℕ) (h : s.cycles ≤ highest_count) (e : due lines s ≡ d) where
  pub due_list : listed_step_full lines s m ≡ listed_due d s.registers m
  due_list = rw (le-ltb _ _ h, e)

  pub due_stores : stored_by_step_full lines s m ≡ stored_by_due d s.registers m
  due_stores = rw (le-ltb _ _ h, e)
