-- The bytes before `at` are the image's.
use Rattle.std.proofs.Common.{◌≡◌, length, take}
use Rattle.trace_checking.proofs.copy_image.Given as goal

abbrev pub invariant-loop-at : goal.invariant-loop-at
invariant-loop-at l = (length l.copy ≡ length l.image) × (take l.at l.copy ≡ take l.at l.image)
