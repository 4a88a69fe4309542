-- The names by number, as the code has them.
use Rattle.std.specs.Prelude.{ℕ, List, map}
use Rattle.opcode_numbers.specs.Inner.Operations.{operations}
use Rattle.opcode_table.specs.Names.{mnemonic}

-- the names in the order of their numbers
unfoldable pub names : List (List ℕ)
names = map mnemonic operations
