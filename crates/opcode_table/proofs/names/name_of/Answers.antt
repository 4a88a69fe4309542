-- The name of the operation that the table has for the opcode, if it has one.
use mathlib.Core.Path.{◌∙◌, ap}
use native.Mathlib.Omega.{arith}
use Rattle.opcode_table.specs.Names.{name_of}
use Rattle.opcode_table.specs.Lemmas.NameTable.{name_defined, name_undefined}
use Rattle.opcode_table.proofs.names.name_of.Goals as goal

pub returns-then-number-lt56 : goal.returns-then-number-lt56
returns-then-number-lt56 c =
    let opcode = c.args.opcode in
    name_defined _ _ _ opcode c.names-names.ensures c.if-number-lt56.true ∙ ap name_of (c.table-opcodes.ensures opcode (omega arith))

pub returns : goal.returns
returns c =
    let opcode = c.args.opcode in
    name_undefined _ _ _ opcode c.if-number-lt56.false ∙ ap name_of (c.table-opcodes.ensures opcode (omega arith))
