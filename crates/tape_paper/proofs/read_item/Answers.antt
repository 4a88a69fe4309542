-- A record that is not found is malformed; one that is found is judged by its numbers.
use Rattle.std.proofs.Common.{sym}
use Rattle.tape_paper.specs.Lemmas.Items.{item_malformed, item_by_parts}
use Rattle.tape_paper.proofs.read_item.Goals as goal

pub returns-in_default : goal.returns-in_default
returns-in_default c = sym (item_malformed _ _ c.in_default.ensures)

pub returns : goal.returns
returns c = rw (item_by_parts _ _ _ c.in-Some.ensures) c.judge.ensures
