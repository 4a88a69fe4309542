-- By the length.
use Rattle.std.proofs.Common.{eq-eqb, ne_eqb}
use Rattle.image_run.specs.Report.{image_start}
use Rattle.image_run.proofs.start_image.Goals as goal

pub returns-in_default : goal.returns-in_default
unfolding image_start
returns-in_default c = rw (ne_eqb _ _ c.in_default.ensures.cases) c.start.ensures

pub returns : goal.returns
unfolding image_start
returns c =
    let whole = c.in-Some.ensures.cases in
    rw (eq-eqb _ _ whole.long) (rw whole.same at (rw c.read_address.ensures at (rw c.address_from_bytes-first.ensures at c.start-2.ensures)))
