-- By the byte at the counter.
use Rattle.std.proofs.Common.{◌∙◌}
use Rattle.footprint.specs.Lemmas.Footprints.{quiet_list}
use Rattle.footprint.proofs.reads_quiet.Goals as goal

pub returns : goal.returns
returns c =
    let a = c.args in
    c.reads_by.ensures ∙ quiet_list a.registers a.memory.now _ c.get_byte-opcode.ensures _ c.reading_way.ensures
