-- If nothing is guarded in the region of an opcode, its step touches nothing.
use Rattle.std.specs.Prelude.{◌≡◌, ℕ, ◌+◌, ◌/◌, ◌<◌, Bool, true, false, cond, not, List, [], ◌∷◌, ◌++◌, ◌==◌, ◌≢◌, bit_or, slice_index, slice_index_or, Option, Some, None}
use Rattle.instruction.specs.declared.Entry.{Entry}
use Rattle.std.proofs.Math.Path.{refl}
use Rattle.std.proofs.Common.{ap, sym, ◌∙◌, true≢false, arith, eqb-true}
use Rattle.std.proofs.Math.Decide.{ℕ_discrete}
use Rattle.std.proofs.lemmas.Bool.{not-false}
use Rattle.std.specs.Int.Bits.{or_add_and}
use Rattle.std.proofs.lemmas.Nat.{and_le_l, and_le_r}
use types.Run.{OneOf}
use Rattle.registers.specs.declared.Registers.{Registers}
use Rattle.instruction.specs.declared.Instruction.{Instruction}
use Rattle.instruction.specs.declared.Instruction.TheVariants.{Read, Store, Modify, Branch, Internal, BRK, JMP, JSR, PHA, PHP, PLA, PLP, RTI, RTS}
use Rattle.instruction.specs.declared.StoreOperation.{StoreOperation}
use Rattle.instruction.specs.declared.ModifyOperation.{ModifyOperation}
use Rattle.instruction.specs.declared.AddressingMode.{AddressingMode}
use Rattle.instruction.specs.declared.AddressingMode.TheVariants.{Accumulator, Implied, Immediate, ZeroPage, ZeroPageX, ZeroPageY, Relative, Absolute, AbsoluteX, AbsoluteY, BuggyIndirect, IndexedIndirectX, IndirectIndexedY}
use Rattle.instruction.specs.Opcodes.{decoded, rows}
use Rattle.manual.specs.Words.{low_byte, address_of, joined}
use Rattle.manual.specs.Addressing.{operand, target}
use Rattle.manual.specs.ReadList.{addressed, operands, pointers, reached, listed, listed_entry}
use Rattle.manual.specs.StoreList.{aim, stored_to, stored_by_entry}
use Rattle.footprint.specs.Lemmas.Arms.{Arm, codes_at, given_at, Rest, arm_right, last_right}
use Rattle.guard_maps.specs.Maps.{in_map, first_in}
use Rattle.guard_near.specs.declared.Region.{Region}
use Rattle.guard_maps.specs.Lemmas.Maps.{none_in}
use Rattle.guard_near.specs.Inner.Near.{Free, AllFree, LowFree, CodeFree, Untouched, around_stack, RegionFree, region_to, region_for, region_of_entry, region_of}

-- ---- the arms of the code's match

abbrev pub region_arms : List (Arm Region)
region_arms =
    (0x00 ∷ 0x6C ∷ [], Region.Anywhere)
    ∷ (0x08 ∷ 0x20 ∷ 0x28 ∷ 0x40 ∷ 0x48 ∷ 0x60 ∷ 0x68 ∷ [], Region.Stack)
    ∷ (0x01 ∷ 0x21 ∷ 0x41 ∷ 0x61 ∷ 0x81 ∷ 0xA1 ∷ 0xC1 ∷ 0xE1 ∷ [], Region.IndexedIndirectX)
    ∷ (0x11 ∷ 0x31 ∷ 0x51 ∷ 0x71 ∷ 0x91 ∷ 0xB1 ∷ 0xD1 ∷ 0xF1 ∷ [], Region.IndirectIndexedY)
    ∷ (0x24 ∷ 0x84 ∷ 0xA4 ∷ 0xC4 ∷ 0xE4 ∷ [], Region.ZeroPage)
    ∷ (0x94 ∷ 0xB4 ∷ [], Region.ZeroPageX)
    ∷ (0x05 ∷ 0x25 ∷ 0x45 ∷ 0x65 ∷ 0x85 ∷ 0xA5 ∷ 0xC5 ∷ 0xE5 ∷ [], Region.ZeroPage)
    ∷ (0x15 ∷ 0x35 ∷ 0x55 ∷ 0x75 ∷ 0x95 ∷ 0xB5 ∷ 0xD5 ∷ 0xF5 ∷ [], Region.ZeroPageX)
    ∷ (0x06 ∷ 0x26 ∷ 0x46 ∷ 0x66 ∷ 0x86 ∷ 0xA6 ∷ 0xC6 ∷ 0xE6 ∷ [], Region.ZeroPage)
    ∷ (0x16 ∷ 0x36 ∷ 0x56 ∷ 0x76 ∷ 0xD6 ∷ 0xF6 ∷ [], Region.ZeroPageX)
    ∷ (0x96 ∷ 0xB6 ∷ [], Region.ZeroPageY)
    ∷ (0x19 ∷ 0x39 ∷ 0x59 ∷ 0x79 ∷ 0x99 ∷ 0xB9 ∷ 0xBE ∷ 0xD9 ∷ 0xF9 ∷ [], Region.AbsoluteY)
    ∷ (0x2C ∷ 0x4C ∷ 0x8C ∷ 0xAC ∷ 0xCC ∷ 0xEC ∷ [], Region.Absolute)
    ∷ (0x0D ∷ 0x2D ∷ 0x4D ∷ 0x6D ∷ 0x8D ∷ 0xAD ∷ 0xCD ∷ 0xED ∷ [], Region.Absolute)
    ∷ (0x0E ∷ 0x2E ∷ 0x4E ∷ 0x6E ∷ 0x8E ∷ 0xAE ∷ 0xCE ∷ 0xEE ∷ [], Region.Absolute)
    ∷ (0x1D ∷ 0x3D ∷ 0x5D ∷ 0x7D ∷ 0x9D ∷ 0xBD ∷ 0xDD ∷ 0xFD ∷ [], Region.AbsoluteX)
    ∷ (0x1E ∷ 0x3E ∷ 0x5E ∷ 0x7E ∷ 0xBC ∷ 0xDE ∷ 0xFE ∷ [], Region.AbsoluteX)
    ∷ []

-- an opcode of an arm, and one of none
pub region_arm : (i opcode : ℕ) → OneOf (codes_at region_arms i) opcode → given_at Region.Nowhere region_arms i ≡ region_of opcode
unfolding decoded rows
region_arm = arm_right (λ n. n) region_of Region.Nowhere region_arms refl

pub region_none : (opcode : ℕ) → opcode < 256 → Rest opcode region_arms (Unit {0}) → Region.Nowhere ≡ region_of opcode
unfolding decoded rows
region_none = last_right Region.Nowhere region_of region_arms 256 refl

-- ---- the maps, eight addresses a byte

pub or_none : (a b : ℕ) → bit_or a b ≡ 0 → (a ≡ 0) × (b ≡ 0)
or_none a b e =
    let sum = or_add_and a b in
    (omega (arith, sum, e, and_le_r a b), omega (arith, sum, e, and_le_l a b))

-- the test of the code: it is not unequal to 0
pub none_set : (x : ℕ) → not (x == 0) ≡ false → x ≡ 0
none_set x h = eqb-true x 0 (not-false _ h)

module _ (reads stores : List ℕ) where
  -- an address in the same byte as one whose bytes are 0
  beside : (a b : ℕ) → a / 8 ≡ b / 8 → (slice_index reads (b / 8) ≡ 0) × (slice_index stores (b / 8) ≡ 0) → Free (in_map reads) (in_map stores) a
  beside a b e (r, w) = (none_in reads a (ap (λ (i : ℕ). slice_index reads i) e ∙ r), none_in stores a (ap (λ (i : ℕ). slice_index stores i) e ∙ w))

  pub here_free : (a : ℕ) → not (bit_or (slice_index reads (a / 8)) (slice_index stores (a / 8)) == 0) ≡ false → Free (in_map reads) (in_map stores) a
  here_free a h = beside a a refl (or_none _ _ (none_set _ h))

  -- bytes that are 0 up to a place, and the one at it
  abbrev Zeros : ℕ → Type 0
  Zeros i = (j : ℕ) → j < i → (slice_index reads j ≡ 0) × (slice_index stores j ≡ 0)

  pub one_more : (i : ℕ) → Zeros i → slice_index reads i ≡ 0 → slice_index stores i ≡ 0 → Zeros (i + 1)
  one_more i f r w j l = at (ℕ_discrete j i)
    where
      at : Dec (j ≡ i) → (slice_index reads j ≡ 0) × (slice_index stores j ≡ 0)
      at (yes e) = rw e (r, w)
      at (no n) = f j (omega (arith, l, n))

  -- the two pages of which all bytes are 0
  pub low_free : (all : ℕ) → (all ≡ 0 → Zeros 64)
      → LowFree (in_map reads) (in_map stores) (not (all == 0))
  low_free all f h a l = beside a a refl (f (none_set all h) (a / 8) (omega arith))

  -- the six bytes around the stack pointer: one that is not in the byte of the pointer is in that of the lowest or of the highest
  pub stack_free : (s : ℕ) {low at high : ℕ} → s < 256 → low ≡ joined 1 (low_byte (s + 254)) → at ≡ joined 1 s → high ≡ joined 1 (low_byte (s + 3))
      → not (bit_or (bit_or (bit_or (bit_or (bit_or (slice_index reads (low / 8)) (slice_index stores (low / 8))) (slice_index reads (at / 8))) (slice_index stores (at / 8))) (slice_index reads (high / 8))) (slice_index stores (high / 8)) == 0) ≡ false
      → AllFree (in_map reads) (in_map stores) (around_stack s)
  stack_free s {low} {at} {high} byte e f g h =
      let five = or_none _ _ (none_set _ h) in
      let four = or_none _ _ five.0 in
      let three = or_none _ _ four.0 in
      let two = or_none _ _ three.0 in
      let one = or_none _ _ two.0 in
      let lower : (a : ℕ) → a / 8 ≡ low / 8 → Free (in_map reads) (in_map stores) a = λ a same. beside a low same one in
      let middle : (a : ℕ) → a / 8 ≡ at / 8 → Free (in_map reads) (in_map stores) a = λ a same. beside a at same (two.1, three.1) in
      let upper : (a : ℕ) → a / 8 ≡ high / 8 → Free (in_map reads) (in_map stores) a = λ a same. beside a high same (four.1, five.1) in (
        lower _ (omega (arith, e)),
        (
          either (joined 1 (low_byte (s + 255))) (at / 8) (low / 8) middle lower (λ n. omega (arith, e, f, n, byte)),
          (
            middle _ (omega (arith, f)),
            (
              either (joined 1 (low_byte (s + 1))) (at / 8) (high / 8) middle upper (λ n. omega (arith, f, g, n, byte)),
              (
                either (joined 1 (low_byte (s + 2))) (at / 8) (high / 8) middle upper (λ n. omega (arith, f, g, n, byte)),
                (upper _ (omega (arith, g)), tt),
              ),
            ),
          ),
        ),
      )
    where
      either : (a b c : ℕ) → ((x : ℕ) → x / 8 ≡ b → Free (in_map reads) (in_map stores) x) → ((x : ℕ) → x / 8 ≡ c → Free (in_map reads) (in_map stores) x)
          → ((a / 8 ≢ b) → a / 8 ≡ c) → Free (in_map reads) (in_map stores) a
      either a b c f g h = by (ℕ_discrete (a / 8) b)
        where
          by : Dec (a / 8 ≡ b) → Free (in_map reads) (in_map stores) a
          by (yes e) = f a e
          by (no n) = g a (h n)

-- they lie in the first two pages
pub low_stack : (reads stores : ℕ → Bool) (s : ℕ) → s < 256 → ((a : ℕ) → a < 512 → Free reads stores a) → AllFree reads stores (around_stack s)
low_stack reads stores s byte f =
    (f _ (omega arith), (f _ (omega arith), (f _ (omega arith), (f _ (omega arith), (f _ (omega arith), (f _ (omega arith), tt))))))

-- an opcode and the two bytes after it: the middle one is in the byte of the first or of the last
pub code_free : (map : List ℕ) (counter next : ℕ) → counter < 65536 → next ≡ address_of (counter + 2)
    → not (bit_or (slice_index map (counter / 8)) (slice_index map (next / 8)) == 0) ≡ false
    → CodeFree (in_map map) counter
code_free map counter next word e h =
    let none = or_none _ _ (none_set _ h) in
    let last : slice_index_or map (address_of (counter + 2) / 8) 0 ≡ 0 = ap (λ (a : ℕ). slice_index map (a / 8)) (sym e) ∙ none.1 in
    (none_in map counter none.0, middle (ℕ_discrete (address_of (counter + 1) / 8) (counter / 8)) none.0 last, none_in map (address_of (counter + 2)) last)
  where
    middle : Dec (address_of (counter + 1) / 8 ≡ counter / 8) → slice_index map (counter / 8) ≡ 0 → slice_index map (address_of (counter + 2) / 8) ≡ 0
        → in_map map (address_of (counter + 1)) ≡ false
    middle (yes same) f l = none_in map (address_of (counter + 1)) (ap (λ (i : ℕ). slice_index map i) same ∙ f)
    middle (no n) f l =
        let same : address_of (counter + 1) / 8 ≡ address_of (counter + 2) / 8 = omega (arith, n, word) in
        none_in map (address_of (counter + 1)) (ap (λ (i : ℕ). slice_index map i) same ∙ l)

-- ---- lists

module _ (guards : ℕ → Bool) where
  pub none_first : first_in guards [] ≡ None
  unfolding first_in
  none_first = refl

  pub not_first : (a : ℕ) (l : List ℕ) → guards a ≡ false → first_in guards l ≡ None → first_in guards (a ∷ l) ≡ None
  unfolding first_in
  not_first a l e f = simp e f

module _ (reads stores : ℕ → Bool) (r : Registers) (m : List ℕ) (code : CodeFree reads r.counter) where
  -- what is read on the way to the byte of a mode, with it and without, and a store to it
  record Reaches (mode : AddressingMode) : Type 0 where
    with : first_in reads (operands mode r ++ pointers mode r m ++ reached mode r m) ≡ None
    without : first_in reads (operands mode r ++ pointers mode r m) ≡ None
    into : addressed mode ≡ true → first_in stores (aim mode r m ∷ []) ≡ None

  -- after the opcode
  none : first_in reads [] ≡ None
  none = none_first reads

  one : (l : List ℕ) → first_in reads l ≡ None → first_in reads (operand r 1 ∷ l) ≡ None
  one l = not_first reads (operand r 1) l code.1

  two : (l : List ℕ) → first_in reads l ≡ None → first_in reads (operand r 1 ∷ operand r 2 ∷ l) ≡ None
  two l f = one _ (not_first reads (operand r 2) l code.2 f)

  -- an address that is not guarded
  read : (a : ℕ) (l : List ℕ) → Free reads stores a → first_in reads l ≡ None → first_in reads (a ∷ l) ≡ None
  read a l free f = not_first reads a l free.0 f

  stored : (a : ℕ) (l : List ℕ) → Free reads stores a → first_in stores l ≡ None → first_in stores (a ∷ l) ≡ None
  stored a l free f = not_first stores a l free.1 f

  last : (a : ℕ) → Free reads stores a → first_in stores (a ∷ []) ≡ None
  last a free = stored a [] free (none_first stores)

  unaddressed : {A : Type 0} → false ≡ true → A
  unaddressed e = absurd (true≢false (sym e))

  reach : (mode : AddressingMode) → RegionFree reads stores (region_to mode) r m → Reaches mode
  unfolding RegionFree target
  reach Accumulator f = record { with = none; without = none; into = unaddressed }
  reach Implied f = record { with = none; without = none; into = unaddressed }
  reach Immediate f = record { with = one _ none; without = one _ none; into = unaddressed }
  reach Relative f = record { with = one _ none; without = one _ none; into = unaddressed }
  reach ZeroPage f = record { with = one _ (read _ _ f.0 none); without = one _ none; into = λ e. last _ f.0 }
  reach ZeroPageX f = record { with = one _ (read _ _ f.0 none); without = one _ none; into = λ e. last _ f.0 }
  reach ZeroPageY f = record { with = one _ (read _ _ f.0 none); without = one _ none; into = λ e. last _ f.0 }
  reach Absolute f = record { with = two _ (read _ _ f.0 none); without = two _ none; into = λ e. last _ f.0 }
  reach AbsoluteX f = record { with = two _ (read _ _ f.0 none); without = two _ none; into = λ e. last _ f.0 }
  reach AbsoluteY f = record { with = two _ (read _ _ f.0 none); without = two _ none; into = λ e. last _ f.0 }
  reach BuggyIndirect f = absurd f
  reach IndexedIndirectX f =
      record { with = one _ (read _ _ f.1.0 (read _ _ f.1.1.0 (read _ _ f.0 none))); without = one _ (read _ _ f.1.0 (read _ _ f.1.1.0 none)); into = λ e. last _ f.0 }
  reach IndirectIndexedY f =
      record { with = one _ (read _ _ f.1.0 (read _ _ f.1.1.0 (read _ _ f.0 none))); without = one _ (read _ _ f.1.0 (read _ _ f.1.1.0 none)); into = λ e. last _ f.0 }

  -- what an instruction reads after its opcode, and what it stores to
  abbrev Passes : Instruction → AddressingMode → Type 0
  Passes i mode = (first_in reads (listed i mode r m) ≡ None) × (first_in stores (stored_to i mode r m) ≡ None)

  store_passes : (k : StoreOperation) (mode : AddressingMode) (t : Bool) → addressed mode ≡ t → RegionFree reads stores (cond t (region_to mode) Region.Anywhere) r m → Passes (Store k) mode
  unfolding RegionFree
  store_passes k mode true e f = let h = reach mode f in (h.without, h.into e)
  store_passes k mode false e f = absurd f

  modify_passes : (k : ModifyOperation) (mode : AddressingMode) → RegionFree reads stores (region_for (Modify k) mode) r m → Passes (Modify k) mode
  unfolding RegionFree
  modify_passes k Accumulator f = (none, none_first stores)
  modify_passes k Implied f = (none, none_first stores)
  modify_passes k Immediate f = absurd f
  modify_passes k Relative f = absurd f
  modify_passes k BuggyIndirect f = absurd f
  modify_passes k ZeroPage f = let h = reach ZeroPage f in (h.with, h.into refl)
  modify_passes k ZeroPageX f = let h = reach ZeroPageX f in (h.with, h.into refl)
  modify_passes k ZeroPageY f = let h = reach ZeroPageY f in (h.with, h.into refl)
  modify_passes k Absolute f = let h = reach Absolute f in (h.with, h.into refl)
  modify_passes k AbsoluteX f = let h = reach AbsoluteX f in (h.with, h.into refl)
  modify_passes k AbsoluteY f = let h = reach AbsoluteY f in (h.with, h.into refl)
  modify_passes k IndexedIndirectX f = let h = reach IndexedIndirectX f in (h.with, h.into refl)
  modify_passes k IndirectIndexedY f = let h = reach IndirectIndexedY f in (h.with, h.into refl)

  passes : (i : Instruction) (mode : AddressingMode) → RegionFree reads stores (region_for i mode) r m → Passes i mode
  unfolding RegionFree
  passes (Read k) mode f = ((reach mode f).with, none_first stores)
  passes (Store k) mode f = store_passes k mode (addressed mode) refl f
  passes (Modify k) mode f = modify_passes k mode f
  passes (Branch k) mode f = ((reach mode f).without, none_first stores)
  passes (Internal k) mode f = (none, none_first stores)
  passes JMP mode f = ((reach mode f).without, none_first stores)
  passes JSR mode (below, (under, (here, rest))) = (two _ none, stored _ _ here (last _ under))
  passes RTS mode (below, (under, (here, (over, (second, rest))))) = (read _ _ over (read _ _ second none), none_first stores)
  passes RTI mode (below, (under, (here, (over, (second, (third, rest)))))) = (read _ _ over (read _ _ second (read _ _ third none)), none_first stores)
  passes PLA mode (below, (under, (here, (over, rest)))) = (read _ _ over none, none_first stores)
  passes PLP mode (below, (under, (here, (over, rest)))) = (read _ _ over none, none_first stores)
  passes PHA mode (below, (under, (here, rest))) = (none, last _ here)
  passes PHP mode (below, (under, (here, rest))) = (none, last _ here)
  passes BRK mode f = absurd f

  entry_passes : (d : Option Entry) → RegionFree reads stores (region_of_entry d) r m
      → (first_in reads (listed_entry d r m) ≡ None) × (first_in stores (stored_by_entry d r m) ≡ None)
  entry_passes (Some e) f = passes e.instruction e.mode f
  entry_passes None f = (none, none_first stores)

  -- The byte at the counter touches nothing.
  pub untouched : {opcode : ℕ} → opcode ≡ slice_index m r.counter → RegionFree reads stores (region_of opcode) r m → Untouched reads stores r m
  untouched e f =
      let h = entry_passes (decoded (slice_index m r.counter)) (rw e at f) in
      (not_first reads r.counter _ code.0 h.0, h.1)
