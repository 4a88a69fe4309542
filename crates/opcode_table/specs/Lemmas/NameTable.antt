-- Laws of NameTable.antt.
use Rattle.std.specs.Prelude.{ℕ, ◌<◌, ◌≤◌, ◌≡◌, refl, List, [], get_or}
use Rattle.laws.specs.Lemmas.Agree.{agree}
use Rattle.laws.specs.Characters.{characters}
use Rattle.opcode_numbers.specs.Inner.Operations.{operations, operation_at}
use Rattle.opcode_table.specs.Inner.Arrays.{entry_in}
use Rattle.opcode_table.specs.Theorems.Arrays.{entry_defined, entry_undefined}
use Rattle.opcode_table.specs.Names.{mnemonic, name_of}
use Rattle.opcode_table.specs.Inner.NameTable.{names}

name_at : (n : ℕ) → n < 56 → get_or names n [] ≡ mnemonic (operation_at n)
unfolding names operation_at operations mnemonic
name_at = agree (λ n. get_or names n []) (λ n. mnemonic (operation_at n)) 56 refl

-- The name of what three lists say of an opcode.
module _ (operations modes cycles : List ℕ) (k : ℕ) where
  pub name_defined : {list : List (List ℕ)} → list ≡ names → get_or operations k 0 < 56
      → get_or list (get_or operations k 0) [] ≡ name_of (entry_in operations modes cycles k)
  name_defined e h = rw (e, ← entry_defined operations modes cycles k h refl refl) (name_at (get_or operations k 0) h)

  pub name_undefined : 56 ≤ get_or operations k 0 → characters "???" ≡ name_of (entry_in operations modes cycles k)
  name_undefined h = rw (← entry_undefined operations modes cycles k h)
