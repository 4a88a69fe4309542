-- The byte is that of the entry's mode.
use Rattle.instruction.specs.declared.ReadOperation.TheVariants.{ADC}
use Rattle.opcode_effects.specs.Theorems.Rows.{fetch_performs}
use Rattle.opcode_effects.proofs.keeping.adds.Goals as goal

pub returns : goal.returns
returns c = fetch_performs ADC _ _ _ _ c.fetched.ensures
