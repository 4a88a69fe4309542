-- The constant's names are the definition's, by computation.
use mathlib.Core.Path.{refl}
use Rattle.opcode_numbers.specs.Inner.Operations.{operations}
use Rattle.opcode_table.specs.Names.{mnemonic}
use Rattle.opcode_table.specs.Inner.NameTable.{names}
use Rattle.opcode_table.proofs.names.names.Goals as goal

pub returns : goal.returns
unfolding names operations mnemonic
returns c = refl
