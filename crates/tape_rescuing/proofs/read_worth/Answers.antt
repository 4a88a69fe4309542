-- A record that is not found is malformed; one that is found is judged by its numbers, its own address for its number.
use Rattle.std.proofs.Common.{sym}
use Rattle.tape_rescuing.specs.Lemmas.Passing.{worth_malformed, worth_by_parts}
use Rattle.tape_rescuing.proofs.read_worth.Goals as goal

pub returns-in_default : goal.returns-in_default
returns-in_default c = sym (worth_malformed _ c.in_default.ensures)

pub returns : goal.returns
returns c = rw (worth_by_parts _ _ c.in-Some.ensures) c.judge.ensures
