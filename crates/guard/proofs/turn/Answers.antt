-- A line that is due is served; where none is, the steps are those with IRQ high.
use Rattle.std.specs.Prelude.{Option}
use Rattle.std.proofs.Common.{ℕ, ◌-◌, sym, ap, ◌∙◌}
use Rattle.cpu.specs.Inner.Turning.{stretch}
use Rattle.guard_maps.specs.Maps.{in_map}
use Rattle.guard.specs.Guarded.{guarded_full}
use Rattle.guard.specs.Lemmas.Guarding.{quiet_held, calm_steps}
use Rattle.guard.proofs.turn.Goals as goal

pub patrol-requires : goal.patrol-requires
patrol-requires c = (quiet_held c.args.lines c.args.start (sym c.due.ensures ∙ c.in-None.is), c.requires.2)

pub returns-in-None : goal.returns-in-None
returns-in-None c =
    let a = c.args in
    let reads = in_map a.guards.reads.now in
    let stores = in_map a.guards.stores.now in
    let none = sym c.due.ensures ∙ c.in-None.is in
    c.patrol.ensures
    ∙ sym (calm_steps a.lines a.start a.memory.now none reads stores (a.bound - a.steps) a.steps c.requires.0)
    ∙ ap (λ (d : Option ℕ). guarded_full reads stores (stretch d (a.bound - a.steps)) a.steps a.lines a.start a.memory.now) (sym none)
