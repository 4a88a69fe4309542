-- The run of the machine of the numbers.
use Rattle.mos6502_guard.specs.Lemmas.Numbers.{to_on_numbers}
use Rattle.mos6502_guard.proofs.mos6502_run_to.Goals as goal

pub returns : goal.returns
returns c =
    rw (c.stop_answer.ensures, c.hand_back.ensures.registers_after, c.hand_back.ensures.cycles_after)
    (to_on_numbers _ _ _ _ _ _ _ (rw (c.machine_from.ensures, c.lines_from.ensures) at c.run_to-ended.ensures))
