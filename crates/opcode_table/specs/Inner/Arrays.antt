-- The opcode table as three arrays of numbers.
use Rattle.std.specs.Prelude.{ℕ, ◌<◌, cond, List, ◌≡◌, ltb, get_or, Option, Some, None}
use Rattle.instruction.specs.declared.Entry.{Entry}
use Rattle.instruction.specs.Opcodes.{decoded}
use Rattle.opcode_numbers.specs.Inner.Operations.{operation_at, mode_at}

-- what three numbers stand for: those of an operation (56 or more for none), of a mode, and of the base cycles
abbrev pub built : ℕ → ℕ → ℕ → Option Entry
built operation mode cycles =
    cond (ltb operation 56) (Some (record { instruction = operation_at operation; mode = mode_at mode; cycles = cycles })) None

-- what three lists say of an opcode; shut, so that a proof finds the lists in its goal
unfoldable pub entry_in : List ℕ → List ℕ → List ℕ → ℕ → Option Entry
entry_in operations modes cycles k = built (get_or operations k 0) (get_or modes k 0) (get_or cycles k 0)

-- three lists that are the table: they say of every opcode what it means
abbrev pub IsTable : List ℕ → List ℕ → List ℕ → Type 0
IsTable operations modes cycles = (k : ℕ) → k < 256 → entry_in operations modes cycles k ≡ decoded k
