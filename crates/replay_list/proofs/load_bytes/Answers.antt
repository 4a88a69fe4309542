-- One cell more at each turn.
use Rattle.std.proofs.Common.{◌+◌, ◌-◌, ◌∙◌, arith}
use Rattle.replay_list.specs.Lemmas.Loops.{load_full, load_end, load_more}
use Rattle.replay_list.proofs.load_bytes.Goals as goal

pub loop-preserved : goal.loop-preserved
loop-preserved c = (
  omega (arith, c.loop.invariant.0),
  c.loop.invariant.1 ∙ load_more _ _ _ c.in-Some.ensures _ (64 - (c.loop.counter + 1)) (omega arith) ∙ rw c.store.ensures,
)

pub returns-after-loop : goal.returns-after-loop
returns-after-loop c = c.loop.invariant.1 ∙ load_full _ _ _ _ (omega arith)

pub returns-in_default : goal.returns-in_default
returns-in_default c = c.loop.invariant.1 ∙ load_end _ _ _ _ c.in_default.ensures
