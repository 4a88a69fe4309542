-- What an opcode reads and stores to, by a way.
use Rattle.std.specs.Prelude.{◌≡◌, ℕ, ◌+◌, List, [], ◌∷◌, slice_index}
use Rattle.registers.specs.declared.Registers.{Registers}
use Rattle.footprint.specs.declared.ways.Target.{Target}
use Rattle.footprint.specs.declared.ways.Reading.{Reading}
use Rattle.footprint.specs.declared.ways.Storing.{Storing}
use Rattle.instruction.specs.Opcodes.{decoded}
use Rattle.manual.specs.Words.{low_byte, address_of, page, joined}
use Rattle.manual.specs.Addressing.{operand}
use Rattle.manual.specs.Interrupts.{irq_vector}
use Rattle.manual.specs.ReadList.{first_operand, pointer_at, pulled, listed_entry}
use Rattle.manual.specs.StoreList.{three_pushed, stored_by_entry}

-- the addresses that a way gives, from the registers and the memory
abbrev pub Way : Type 0
Way = Registers → List ℕ → List ℕ

-- ---- where the bytes after an opcode lead

abbrev pub zero_page : Registers → List ℕ → ℕ
zero_page r m = joined 0 (first_operand r m)

abbrev pub zero_page_plus : ℕ → Registers → List ℕ → ℕ
zero_page_plus index r m = joined 0 (low_byte (first_operand r m + index))

abbrev pub first_at : ℕ → List ℕ → ℕ
first_at counter m = slice_index m (address_of (counter + 1))

abbrev pub absolute : ℕ → List ℕ → ℕ
absolute counter m = joined (slice_index m (address_of (counter + 2))) (first_at counter m)

abbrev pub pointer_x : Registers → List ℕ → ℕ
pointer_x r m = low_byte (first_operand r m + r.x)

-- what a pointer in the zero page holds
abbrev pub pointed : ℕ → List ℕ → ℕ
pointed b m = joined (slice_index m (joined 0 (low_byte (b + 1)))) (slice_index m (joined 0 b))

-- ---- the ways

-- what is read after the opcode by a mode that leads to a byte
unfoldable pub read_to : Target → Way
read_to Target.ZeroPage = λ r m. operand r 1 ∷ zero_page r m ∷ []
read_to Target.ZeroPageX = λ r m. operand r 1 ∷ zero_page_plus r.x r m ∷ []
read_to Target.ZeroPageY = λ r m. operand r 1 ∷ zero_page_plus r.y r m ∷ []
read_to Target.Absolute = λ r m. operand r 1 ∷ operand r 2 ∷ absolute r.counter m ∷ []
read_to Target.AbsoluteX = λ r m. operand r 1 ∷ operand r 2 ∷ address_of (absolute r.counter m + r.x) ∷ []
read_to Target.AbsoluteY = λ r m. operand r 1 ∷ operand r 2 ∷ address_of (absolute r.counter m + r.y) ∷ []
read_to Target.IndexedIndirectX = λ r m. operand r 1 ∷ joined 0 (pointer_x r m) ∷ joined 0 (low_byte (pointer_x r m + 1)) ∷ pointed (pointer_x r m) m ∷ []
read_to Target.IndirectIndexedY = λ r m. operand r 1 ∷ zero_page r m ∷ joined 0 (low_byte (first_operand r m + 1)) ∷ address_of (pointed (first_operand r m) m + r.y) ∷ []

-- the byte that it leads to
unfoldable pub target_of : Target → Registers → List ℕ → ℕ
target_of Target.ZeroPage = λ r m. zero_page r m
target_of Target.ZeroPageX = λ r m. zero_page_plus r.x r m
target_of Target.ZeroPageY = λ r m. zero_page_plus r.y r m
target_of Target.Absolute = λ r m. absolute r.counter m
target_of Target.AbsoluteX = λ r m. address_of (absolute r.counter m + r.x)
target_of Target.AbsoluteY = λ r m. address_of (absolute r.counter m + r.y)
target_of Target.IndexedIndirectX = λ r m. pointed (pointer_x r m) m
target_of Target.IndirectIndexedY = λ r m. address_of (pointed (first_operand r m) m + r.y)

-- what is read after the opcode
unfoldable pub read_by : Reading → Way
read_by Reading.Nothing = λ r m. []
read_by (Reading.To t) = read_to t
read_by Reading.OneOperand = λ r m. operand r 1 ∷ []
read_by Reading.TwoOperands = λ r m. operand r 1 ∷ operand r 2 ∷ []
read_by Reading.PointerX = λ r m. operand r 1 ∷ pointer_at 0 (pointer_x r m)
read_by Reading.PointerY = λ r m. operand r 1 ∷ pointer_at 0 (first_operand r m)
read_by Reading.JumpIndirect = λ r m. operand r 1 ∷ operand r 2 ∷ pointer_at (page (absolute r.counter m)) (low_byte (absolute r.counter m))
read_by Reading.PullOne = λ r m. pulled r 1 ∷ []
read_by Reading.PullTwo = λ r m. pulled r 1 ∷ pulled r 2 ∷ []
read_by Reading.PullThree = λ r m. pulled r 1 ∷ pulled r 2 ∷ pulled r 3 ∷ []
read_by Reading.Vector = λ r m. irq_vector ∷ (irq_vector + 1) ∷ []

-- what is stored to
unfoldable pub stored_by : Storing → Way
stored_by Storing.Nothing = λ r m. []
stored_by (Storing.To t) = λ r m. target_of t r m ∷ []
stored_by Storing.PushOne = λ r m. joined 1 r.stack.0 ∷ []
stored_by Storing.PushTwo = λ r m. joined 1 r.stack.0 ∷ pulled r 255 ∷ []
stored_by Storing.PushThree = λ r m. three_pushed r

-- ---- the way of each opcode

-- what it reads after itself, and what it stores to, by the definition
abbrev pub reads_of : ℕ → Way
reads_of k = λ r m. listed_entry (decoded k) r m

abbrev pub stores_of : ℕ → Way
stores_of k = λ r m. stored_by_entry (decoded k) r m

-- the way is that of the opcode
abbrev pub ReadsBy : Reading → ℕ → Type 0
ReadsBy way k = read_by way ≡ reads_of k

abbrev pub StoresBy : Storing → ℕ → Type 0
StoresBy way k = stored_by way ≡ stores_of k
