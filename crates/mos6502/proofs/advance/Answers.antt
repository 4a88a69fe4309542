-- The answer's number, and what the turn hands back.
use Prim.Native.Nat.{ℕ}
use mathlib.Core.Path.{ap, sym, ◌∙◌, subst}
use mathlib.Core.List.{List}
use Rattle.manual.specs.declared.Lines.{Lines}
use Rattle.manual.specs.declared.Machine.{Machine}
use Rattle.manual.specs.Micro.{Gives}
use Rattle.cpu.specs.declared.Travelled.{Travelled}
use Rattle.cpu.specs.Inner.Turning.{Calm, Fits, turning, settled}
use Rattle.mos6502_numbers.specs.Machines.{machine_from, lines_from}
use Rattle.mos6502.specs.Lemmas.Numbers.{turn_gives}
use Rattle.mos6502.proofs.advance.Goals as goal

-- the turn on the machine of the numbers

pub turn-turned-requires : goal.turn-turned-requires
turn-turned-requires c = (
  subst (λ (l : Lines). Calm l c.args.bound) (sym c.lines_from.ensures) c.requires.0,
  subst (λ (q : Machine). Fits q.cycles c.args.bound) (sym c.machine_from.ensures) c.requires.1,
)

pub returns : goal.returns
returns c =
    let made : let a = c.args in Gives (turning a.bound (lines_from a.lines) (machine_from a.registers.now a.cycles.now)) a.memory.now c.turn-turned.result c.turn-turned.new.memory = rw (c.machine_from.ensures, c.lines_from.ensures) at c.turn-turned.ensures in
    let a = c.args in record {
      gives = turn_gives _ _ _ _ _ made ∙ rw (c.from.ensures, c.hand_back.ensures.registers_after, c.hand_back.ensures.cycles_after);
      cycles_after = c.hand_back.ensures.cycles_after_2
          ∙ ap (λ (w : Travelled × List ℕ). (settled (machine_from a.registers.now a.cycles.now) w.0.ended).machine) (sym made);
    }
