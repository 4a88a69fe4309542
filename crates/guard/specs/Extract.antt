-- A run whose memory may be handed out whole: it is blanked at the sealed addresses, which are guarded against reads.
use Rattle.std.specs.Prelude.{ℕ, ◌+◌, Bool, cond, List, [], ◌∷◌, ◌==◌}
use Rattle.manual.specs.declared.Lines.{Lines}
use Rattle.manual.specs.declared.Machine.{Machine}
use Rattle.manual.specs.declared.Reason.TheVariants.{MemoryNotFull}
use Rattle.manual.specs.Stepping.{full_memory}
use Rattle.guard_maps.specs.Maps.{nowhere}
use Rattle.guard.specs.Guarded.{Guarded, ran, guarded_full}

-- zeros at the sealed addresses of a part of the memory that begins at i
abbrev pub blanked_from : (ℕ → Bool) → ℕ → List ℕ → List ℕ
blanked_from sealed i [] = []
blanked_from sealed i (b ∷ m) = cond (sealed i) 0 b ∷ blanked_from sealed (i + 1) m

unfoldable pub blanked : (ℕ → Bool) → List ℕ → List ℕ
blanked sealed m = blanked_from sealed 0 m

-- nothing is guarded against stores; a memory of another length is refused
unfoldable pub extract : (ℕ → Bool) → ℕ → ℕ → Lines → Machine → List ℕ → Guarded × List ℕ
extract sealed size bound lines s m =
    cond (size == full_memory) (guarded_full sealed nowhere bound 0 lines s (blanked sealed m)) (ran MemoryNotFull 0 s, m)
