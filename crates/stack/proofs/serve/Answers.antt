-- The way in, from the counter itself and with the byte that a line pushes.
use Rattle.manual.proofs.Lemmas.InstructionLaws.{served_gives}
use Rattle.stack.proofs.serve.Goals as goal

pub returns : goal.returns
returns c = served_gives _ _ _ (rw c.served.ensures at c.enter.ensures)
