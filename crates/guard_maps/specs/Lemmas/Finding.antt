-- The first guarded address of a footprint is that of its list.
use Rattle.std.specs.Prelude.{ℕ, ◌≡◌, Bool, List, [], ◌∷◌, Option, refl}
use Rattle.std.specs.List.{find}
use Rattle.std.proofs.Common.{ap, sym, ◌∙◌}
use Rattle.manual.specs.declared.Lines.{Lines}
use Rattle.manual.specs.declared.Machine.{Machine}
use Rattle.manual.specs.ReadList.{listed_step_full}
use Rattle.manual.specs.StoreList.{stored_by_step_full}
use Rattle.footprint.specs.declared.places.Footprint.{Footprint}
use Rattle.footprint.specs.Places.{footprint_of, addresses}
use Rattle.footprint.specs.Theorems.Whole.{full_kept, full_stores_kept}
use Rattle.guard_maps.specs.Maps.{first_in}

-- it is what the library's search finds
pub first_is_find : (guards : ℕ → Bool) (l : List ℕ) → first_in guards l ≡ find guards l
unfolding first_in
first_is_find guards [] = refl
first_is_find guards (a ∷ l) = rw (first_is_find guards l)

-- what a footprint has first is what the list has first
module _ (guards : ℕ → Bool) (lines : Lines) (s : Machine) (m : List ℕ) {f : Footprint} {x : Option ℕ} (h : x ≡ find guards (addresses f)) where
  found : (l : List ℕ) → f ≡ footprint_of l → addresses (footprint_of l) ≡ l → first_in guards l ≡ x
  found l e kept = first_is_find guards l ∙ sym (h ∙ ap (λ (g : Footprint). find guards (addresses g)) e ∙ ap (find guards) kept)

  pub first_read : f ≡ footprint_of (listed_step_full lines s m) → first_in guards (listed_step_full lines s m) ≡ x
  first_read e = found _ e (full_kept lines s m)

  pub first_stored : f ≡ footprint_of (stored_by_step_full lines s m) → first_in guards (stored_by_step_full lines s m) ≡ x
  first_stored e = found _ e (full_stores_kept lines s m)
