-- The run of the machine of the numbers.
use Rattle.mos6502_guard.specs.Lemmas.Numbers.{both}
use Rattle.mos6502_guard.proofs.mos6502_guarded_run.Goals as goal

pub returns : goal.returns
returns c = both _ _ c.hand_over.ensures (rw (c.machine_from.ensures, c.lines_from.ensures) at c.guarded_run-guarded.ensures)
