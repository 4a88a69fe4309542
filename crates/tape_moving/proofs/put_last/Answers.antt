-- The format's own end record.
use Rattle.tape_moving.proofs.put_last.Goals as goal

pub returns-in-Tape : goal.returns-in-Tape
returns-in-Tape c = rw c.in-Tape.is c.put_end.ensures
