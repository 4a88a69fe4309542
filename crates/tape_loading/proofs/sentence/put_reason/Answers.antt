-- By the reason.
use Rattle.tape_loading.proofs.sentence.put_reason.Goals as goal

pub returns-in-WrongSum : goal.returns-in-WrongSum
returns-in-WrongSum c = rw c.in-WrongSum.is c.put_text.ensures
