-- The length is tested first; then the image is blanked, and the blanked one is started and guarded.
use Rattle.std.proofs.Common.{sym}
use Rattle.guard_maps.specs.Maps.{in_map}
use Rattle.guard_extract.specs.Lemmas.Lengths.{image_refused, image_by}
use Rattle.guard_extract.proofs.run_sealed.Goals as goal

pub returns-in_default : goal.returns-in_default
returns-in_default c = rw (c.new.ensures, c.start_image-first.ensures) (sym (image_refused (in_map c.args.sealed.now) c.args.steps c.args.image.now c.in_default.ensures.cases))

pub returns : goal.returns
returns c =
    image_by (in_map c.args.sealed.now) c.args.steps c.args.image.now c.in-Some.ensures.cases.long (rw c.in-Some.ensures.cases.same at c.blank.ensures) c.start_image-machine.ensures c.guard_on-guarded.ensures
