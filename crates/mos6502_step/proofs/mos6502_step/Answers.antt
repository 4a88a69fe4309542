-- The length is tested first; a step is a turn of one.
use mathlib.Core.Logic.{inr}
use mathlib.Core.Path.{refl, ◌∙◌}
use Rattle.manual.specs.Micro.{Gives}
use Rattle.cpu.specs.Inner.Turning.{turning}
use Rattle.cpu.specs.Lemmas.Turning.{one_fits}
use Rattle.mos6502_numbers.specs.Machines.{machine_from, lines_from}
use Rattle.mos6502.specs.Lemmas.Numbers.{step_short_memory, step_on_full}
use Rattle.mos6502_step.proofs.mos6502_step.Goals as goal

-- the turn on the machine of the numbers

pub returns-in_default : goal.returns-in_default
returns-in_default c = step_short_memory _ _ _ _ _ c.in_default.ensures.cases

pub turn-turned-requires : goal.turn-turned-requires
turn-turned-requires c = (inr refl, one_fits _)

pub returns : goal.returns
returns c =
    let made : let a = c.args in Gives (turning 1 (lines_from a.lines) (machine_from a.registers.now a.cycles.now)) a.memory.now c.turn-turned.result c.turn-turned.new.memory = rw (c.machine_from.ensures, c.lines_from.ensures, c.in-Some.ensures.cases.same) at c.turn-turned.ensures in
    step_on_full _ _ _ _ _ c.in-Some.ensures.cases.long made
    ∙ rw (c.from.ensures, c.hand_back.ensures.registers_after, c.hand_back.ensures.cycles_after)
