-- Part by part.
use Rattle.image_run.specs.Report.{start}
use Rattle.image_run.proofs.start.Goals as goal

pub returns : goal.returns
unfolding start
returns c = rw (c.new.ensures, c.new-registers.ensures, c.new-status.ensures)
