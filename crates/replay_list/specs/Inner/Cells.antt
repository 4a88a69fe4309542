-- A cell, as the code answers it.
use Rattle.std.specs.Prelude.{cond, eqb, Option, Some, None}
use Rattle.text_reading.specs.Numbers.{nowhere}
use Rattle.replay_list.specs.declared.Cell.{Cell}

-- none where the next place is nowhere
abbrev pub cell_found : Cell → Option Cell
cell_found b = cond (eqb b.next nowhere) None (Some b)
