-- By the format.
use Rattle.tape_loading.proofs.sentence.put_malformed.Goals as goal

pub returns-in-Tape : goal.returns-in-Tape
returns-in-Tape c = rw c.in-Tape.is c.put_text.ensures

pub returns-in-Hex : goal.returns-in-Hex
returns-in-Hex c = rw c.in-Hex.is c.put_text-in-Hex.ensures
