-- The byte is that of the entry's mode.
use Rattle.instruction.specs.declared.ReadOperation.TheVariants.{SBC}
use Rattle.opcode_effects.specs.Theorems.Rows.{fetch_performs}
use Rattle.opcode_effects.proofs.keeping.subtracts.Goals as goal

pub returns : goal.returns
returns c = fetch_performs SBC _ _ _ _ c.fetched.ensures
