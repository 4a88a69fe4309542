-- Where the step of an opcode may reach besides its own bytes, by a region, and that nothing is guarded there.
use Rattle.std.specs.Prelude.{◌≡◌, ℕ, ◌+◌, ◌<◌, Bool, false, cond, List, [], ◌∷◌, ◌==◌, Option, Some, None}
use Rattle.instruction.specs.declared.Entry.{Entry}
use Rattle.registers.specs.declared.Registers.{Registers}
use Rattle.instruction.specs.declared.Instruction.{Instruction}
use Rattle.instruction.specs.declared.Instruction.TheVariants.{Read, Store, Modify, Branch, Internal, BRK, JMP, JSR, PHA, PHP, PLA, PLP, RTI, RTS}
use Rattle.instruction.specs.declared.AddressingMode.{AddressingMode}
use Rattle.instruction.specs.declared.AddressingMode.TheVariants.{Accumulator, Implied, Immediate, ZeroPage, ZeroPageX, ZeroPageY, Relative, Absolute, AbsoluteX, AbsoluteY, BuggyIndirect, IndexedIndirectX, IndirectIndexedY}
use Rattle.instruction.specs.Modes.{operand_bytes}
use Rattle.instruction.specs.Opcodes.{decoded}
use Rattle.manual.specs.Words.{low_byte, address_of, joined}
use Rattle.manual.specs.ReadList.{addressed, first_operand, pointer_at, listed_due}
use Rattle.manual.specs.StoreList.{stored_by_due}
use Rattle.footprint.specs.Inner.Ways.{zero_page, zero_page_plus, absolute, pointer_x, pointed}
use Rattle.guard_maps.specs.Maps.{first_in}
use Rattle.guard_near.specs.declared.Region.{Region}

-- ---- nothing is guarded

-- against reads, at an opcode and the two bytes after it
abbrev pub CodeFree : (ℕ → Bool) → ℕ → Type 0
CodeFree reads counter = (reads counter ≡ false) × (reads (address_of (counter + 1)) ≡ false) × (reads (address_of (counter + 2)) ≡ false)

module _ (reads stores : ℕ → Bool) where
  -- at an address, at those of a list, and in the first two pages
  abbrev pub Free : ℕ → Type 0
  Free a = (reads a ≡ false) × (stores a ≡ false)

  abbrev pub AllFree : List ℕ → Type 0
  AllFree [] = Unit {0}
  AllFree (a ∷ l) = Free a × AllFree l

  abbrev pub LowFree : Bool → Type 0
  LowFree low = low ≡ false → (a : ℕ) → a < 512 → Free a

  -- in all that the byte at the counter reads and stores to
  abbrev pub Untouched : Registers → List ℕ → Type 0
  Untouched r m = (first_in reads (listed_due None r m) ≡ None) × (first_in stores (stored_by_due None r m) ≡ None)

-- ---- the regions

-- what can be pulled and what can be pushed
abbrev pub around_stack : ℕ → List ℕ
around_stack s =
    joined 1 (low_byte (s + 254)) ∷ joined 1 (low_byte (s + 255)) ∷ joined 1 s ∷ joined 1 (low_byte (s + 1)) ∷ joined 1 (low_byte (s + 2)) ∷ joined 1 (low_byte (s + 3)) ∷ []

-- somewhere else may be anywhere
unfoldable pub RegionFree : (ℕ → Bool) → (ℕ → Bool) → Region → Registers → List ℕ → Type 0
RegionFree reads stores Region.Nowhere r m = AllFree reads stores ([])
RegionFree reads stores Region.ZeroPage r m = AllFree reads stores (zero_page r m ∷ [])
RegionFree reads stores Region.ZeroPageX r m = AllFree reads stores (zero_page_plus r.x r m ∷ [])
RegionFree reads stores Region.ZeroPageY r m = AllFree reads stores (zero_page_plus r.y r m ∷ [])
RegionFree reads stores Region.Absolute r m = AllFree reads stores (absolute r.counter m ∷ [])
RegionFree reads stores Region.AbsoluteX r m = AllFree reads stores (address_of (absolute r.counter m + r.x) ∷ [])
RegionFree reads stores Region.AbsoluteY r m = AllFree reads stores (address_of (absolute r.counter m + r.y) ∷ [])
RegionFree reads stores Region.IndexedIndirectX r m = AllFree reads stores (pointed (pointer_x r m) m ∷ pointer_at 0 (pointer_x r m))
RegionFree reads stores Region.IndirectIndexedY r m = AllFree reads stores (address_of (pointed (first_operand r m) m + r.y) ∷ pointer_at 0 (first_operand r m))
RegionFree reads stores Region.Stack r m = AllFree reads stores (around_stack r.stack.0)
RegionFree reads stores Region.Anywhere r m = ⊥

-- ---- the region of each opcode

-- of what a mode leads to
abbrev pub region_to : AddressingMode → Region
region_to Accumulator = Region.Nowhere
region_to Implied = Region.Nowhere
region_to Immediate = Region.Nowhere
region_to ZeroPage = Region.ZeroPage
region_to ZeroPageX = Region.ZeroPageX
region_to ZeroPageY = Region.ZeroPageY
region_to Relative = Region.Nowhere
region_to Absolute = Region.Absolute
region_to AbsoluteX = Region.AbsoluteX
region_to AbsoluteY = Region.AbsoluteY
region_to BuggyIndirect = Region.Anywhere
region_to IndexedIndirectX = Region.IndexedIndirectX
region_to IndirectIndexedY = Region.IndirectIndexedY

abbrev pub region_for : Instruction → AddressingMode → Region
region_for (Read k) mode = region_to mode
region_for (Store k) mode = cond (addressed mode) (region_to mode) Region.Anywhere
region_for (Modify k) mode = cond (addressed mode) (region_to mode) (cond (operand_bytes mode == 0) Region.Nowhere Region.Anywhere)
region_for (Branch k) mode = region_to mode
region_for (Internal k) mode = Region.Nowhere
region_for JMP mode = region_to mode
region_for JSR mode = Region.Stack
region_for RTS mode = Region.Stack
region_for RTI mode = Region.Stack
region_for PLA mode = Region.Stack
region_for PLP mode = Region.Stack
region_for PHA mode = Region.Stack
region_for PHP mode = Region.Stack
region_for BRK mode = Region.Anywhere

abbrev pub region_of_entry : Option Entry → Region
region_of_entry (Some e) = region_for e.instruction e.mode
region_of_entry None = Region.Nowhere

abbrev pub region_of : ℕ → Region
region_of k = region_of_entry (decoded k)
