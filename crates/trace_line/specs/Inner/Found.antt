-- The fields, as the code answers them.
use Rattle.std.specs.Prelude.{cond, eqb, Option, Some, None}
use Rattle.text_reading.specs.Numbers.{nowhere}
use Rattle.trace_line.specs.declared.Fields.{Fields}

-- none where the next place is nowhere
abbrev pub fields_found : Fields → Option Fields
fields_found f = cond (eqb f.next nowhere) None (Some f)
