-- IRQ decides how far the turn goes.
use mathlib.Core.Logic.{inl, inr}
use mathlib.Core.Path.{refl, sym, subst}
use Rattle.cpu.specs.Inner.Turning.{Fits}
use Rattle.cpu.specs.Lemmas.Turning.{one_fits, fitting_fits}
use Rattle.mos6502.specs.Lemmas.Reaching.{level, goes_high, goes_low}
use Rattle.mos6502.proofs.one_turn.Goals as goal

pub advance-requires : goal.advance-requires
advance-requires c = (
  inl (level _ _ _ c.lines_from-present.ensures c.if-present.true),
  subst (Fits c.args.cycles.now) (sym c.fitting-far.ensures) (fitting_fits c.args.bound c.args.cycles.now c.requires),
)

pub advance-requires-else-present : goal.advance-requires-else-present
advance-requires-else-present c = (inr refl, one_fits _)

pub returns-then-present : goal.returns-then-present
returns-then-present c =
    let turned = goes_high _ _ _ _ _ _ c.lines_from-present.ensures c.if-present.true _ c.fitting-far.ensures (c.advance.ensures.gives, c.advance.ensures.cycles_after) in
    record { gives = turned.0; cycles_after = turned.1 }

pub returns-else-present : goal.returns-else-present
returns-else-present c =
    let turned = goes_low _ _ _ _ _ _ c.lines_from-present.ensures c.if-present.false (c.advance-else-present.ensures.gives, c.advance-else-present.ensures.cycles_after) in
    record { gives = turned.0; cycles_after = turned.1 }
