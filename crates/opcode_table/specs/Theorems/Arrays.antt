-- The three arrays of numbers are the opcode table, all 256 rows of it.
use Rattle.std.specs.Prelude.{ℕ, ◌<◌, ◌≤◌, List, ◌≡◌, get_or, Some, None}
use borrow.Author.Tests.{lt-ltb, le-ltb}
use Rattle.laws.specs.Lemmas.Agree.{agree, values_below}
use Rattle.instruction.specs.Opcodes.{decoded}
use Rattle.opcode_numbers.specs.Inner.Operations.{operation_at, mode_at}
use Rattle.instruction.specs.declared.Instruction.{Instruction}
use Rattle.instruction.specs.declared.AddressingMode.{AddressingMode}
use Rattle.opcode_table.specs.Inner.Arrays.{built, entry_in, IsTable}

-- Lists that build what the 256 opcodes mean are the table.
pub is_table : (operations modes cycles : List ℕ)
    → values_below (λ k. built (get_or operations k 0) (get_or modes k 0) (get_or cycles k 0)) 256 ≡ values_below decoded 256
    → IsTable operations modes cycles
unfolding entry_in
is_table operations modes cycles same = agree (entry_in operations modes cycles) decoded 256 same

-- What a number below 56 stands for, and what one from 56 on.
module _ (operations modes cycles : List ℕ) (k : ℕ) where
  pub entry_defined : {i : Instruction} {mode : AddressingMode} → get_or operations k 0 < 56
      → i ≡ operation_at (get_or operations k 0) → mode ≡ mode_at (get_or modes k 0)
      → Some (record { instruction = i; mode = mode; cycles = get_or cycles k 0 }) ≡ entry_in operations modes cycles k
  unfolding entry_in
  entry_defined h i mode = rw (i, mode, lt-ltb (get_or operations k 0) 56 h)

  pub entry_undefined : 56 ≤ get_or operations k 0 → None ≡ entry_in operations modes cycles k
  unfolding entry_in
  entry_undefined h = rw (le-ltb (get_or operations k 0) 56 h)
