-- Past the end the list's own store does nothing either.
use Rattle.std.proofs.Common.{sym}
use Rattle.std.proofs.Math.Seq.{set_out}
use Rattle.replay_list.proofs.store.Goals as goal

pub returns-else-index-memory : goal.returns-else-index-memory
returns-else-index-memory c = sym (set_out _ _ _ c.if-index-memory.false)
