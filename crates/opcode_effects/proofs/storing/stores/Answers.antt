-- The instruction's effect, and its cycles, for which there is room.
use Rattle.std.proofs.Common.{◌∙◌, arith}
use Rattle.manual.proofs.Lemmas.Extra.{extra_of}
use Rattle.opcode_effects.specs.Theorems.Rows.{entry_performed}
use Rattle.opcode_effects.proofs.storing.stores.Goals as goal

pub counted-requires : goal.counted-requires
counted-requires c = omega (arith, extra_of _ _ _ _ c.execute_storing.ensures, c.requires.0)

pub returns : goal.returns
returns c = entry_performed _ _ _ c.execute_storing.ensures ∙ rw c.counted.ensures
