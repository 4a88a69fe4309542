-- By the byte at the counter.
use Rattle.std.proofs.Common.{◌∙◌}
use Rattle.footprint.specs.Lemmas.Footprints.{quiet_stores}
use Rattle.footprint.proofs.stores_quiet.Goals as goal

pub returns : goal.returns
returns c =
    let a = c.args in
    c.stores_by.ensures ∙ quiet_stores a.registers a.memory.now _ c.get_byte-opcode.ensures _ c.storing_way.ensures
