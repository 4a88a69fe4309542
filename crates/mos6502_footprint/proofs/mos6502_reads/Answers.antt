-- The footprint of the machine of the numbers.
use Rattle.mos6502_footprint.proofs.mos6502_reads.Goals as goal

pub returns : goal.returns
returns c = rw (c.machine_from.ensures, c.lines_from.ensures) at c.reads_of-footprint.ensures
