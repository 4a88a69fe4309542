-- By cases of the answer.
use Rattle.mos6502_guard.proofs.hand_over.Goals as goal

pub returns-in-Ok : goal.returns-in-Ok
returns-in-Ok c = rw (c.in-Ok.is, c.from.ensures, c.hand_back.ensures.registers_after, c.hand_back.ensures.cycles_after)

pub returns-in-Err : goal.returns-in-Err
returns-in-Err c =
    rw (c.in-Err.is, c.from-in-Err.ensures, c.refusal.ensures, c.place.ensures, c.hand_back-in-Err.ensures.registers_after, c.hand_back-in-Err.ensures.cycles_after)
