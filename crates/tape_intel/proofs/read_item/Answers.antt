-- A record that is not found is malformed; one that is found is judged by its type and its numbers.
use Rattle.std.proofs.Common.{sym, arith}
use Rattle.text_reading.specs.Lemmas.Found.{gone, got}
use Rattle.tape_intel.specs.Lemmas.Items.{item_malformed, type_there, item_by_parts}
use Rattle.tape_intel.proofs.read_item.Goals as goal

pub returns-in_default : goal.returns-in_default
returns-in_default c = sym (item_malformed _ _ c.in_default.ensures)

pub returns-in_default-read_byte : goal.returns-in_default-read_byte
returns-in_default-read_byte c = absurd (type_there c.args.before _ c.in-Some.ensures (omega arith) (gone _ c.in_default-read_byte.ensures))

pub returns : goal.returns
returns c = rw (item_by_parts _ _ c.in-Some.ensures (omega arith) (got _ c.in-Some-read_byte.ensures)) c.judge.ensures
