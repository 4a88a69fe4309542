-- The byte of the mode's target, and a page cross.
use mathlib.Core.Path.{◌∙◌}
use Rattle.opcode_effects.specs.Theorems.Rows.{fetching_gives}
use Rattle.opcode_effects.proofs.keeping.fetched.Goals as goal

pub returns : goal.returns
returns c =
    fetching_gives _ _ _ _ _ c.target_of-target.ensures
    ∙ rw (c.ticks_of.ensures, c.flag.ensures.value, c.advanced-past.ensures, c.get_byte-value.ensures)
