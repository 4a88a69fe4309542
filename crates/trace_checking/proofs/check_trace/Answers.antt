-- The two lengths are tested before anything is written; the copy starts as the image.
use mathlib.Core.Path.{sym}
use Rattle.trace_checking.specs.Lemmas.Turns.{told, short_image, short_copy, all_checked}
use Rattle.trace_checking.proofs.check_trace.Goals as goal
use Rattle.trace_checking.proofs.check_trace.Goals.{then-image-ne-FULL_MEMORY-via-then-image-ne-FULL_MEMORY, then-image-ne-FULL_MEMORY-via-else-image-ne-FULL_MEMORY+then-copy-ne-FULL_MEMORY}

pub returns-then-image-ne-FULL_MEMORY : goal.returns-then-image-ne-FULL_MEMORY
returns-then-image-ne-FULL_MEMORY c =
    elim c.then-image-ne-FULL_MEMORY.branch [
      | then-image-ne-FULL_MEMORY-via-then-image-ne-FULL_MEMORY w ↦ sym (short_image _ _ _ w.if-image-ne-FULL_MEMORY.true)
      | then-image-ne-FULL_MEMORY-via-else-image-ne-FULL_MEMORY+then-copy-ne-FULL_MEMORY w ↦
          sym (short_copy _ _ _ w.if-image-ne-FULL_MEMORY.false w.if-copy-ne-FULL_MEMORY.true)
    ]

pub returns : goal.returns
returns c =
    told c.close.ensures
    (all_checked _ _ _ c.if-image-ne-FULL_MEMORY.false c.if-copy-ne-FULL_MEMORY.false c.copy_image.ensures c.check_part.ensures.copy_after)
