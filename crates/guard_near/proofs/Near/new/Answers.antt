use Rattle.std.proofs.Common.{arith}
use Rattle.guard_near.specs.Lemmas.Near.{or_none, one_more}
use Rattle.guard_near.proofs.Near.new.Goals as goal

pub loop-i-init : goal.loop-i-init
loop-i-init c = λ e j l. absurd (omega arith)

pub loop-i-preserved : goal.loop-i-preserved
loop-i-preserved c =
    let a = c.args in
    λ e j h.
    let outer = or_none _ _ e in
    let inner = or_none _ _ outer.1 in
    one_more a.guards.reads.now a.guards.stores.now c.loop-i.i (c.loop-i.invariant outer.0) inner.0 inner.1 j h
