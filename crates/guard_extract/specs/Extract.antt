-- The run of an image with some of its bytes sealed, and what it leaves to be handed out.
use Rattle.std.specs.Prelude.{ℕ, Bool, List, length}
use Rattle.manual.specs.Interrupts.{idle}
use Rattle.image_run.specs.Report.{image_start}
use Rattle.guard.specs.Guarded.{Guarded}
use Rattle.guard.specs.Extract.{blanked, extract}

-- the extract of the image, from the address at FFFC; an image of another length is refused
unfoldable pub image_extract : (ℕ → Bool) → ℕ → List ℕ → Guarded × List ℕ
image_extract sealed steps m = extract sealed (length m) steps idle (image_start (blanked sealed m)) m
