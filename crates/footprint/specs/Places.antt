-- A footprint: the addresses of a list in five places, with zeros after them. A sixth has no place.
use Rattle.std.specs.Prelude.{ℕ, List, [], ◌∷◌, ◌++◌, length, take}
use Rattle.footprint.specs.declared.places.Footprint.{Footprint}

abbrev pub footprint_of : List ℕ → Footprint
footprint_of l = record { count = length (take 5 l); places = take 5 (l ++ 0 ∷ 0 ∷ 0 ∷ 0 ∷ 0 ∷ []) }

-- the addresses of a footprint
abbrev pub addresses : Footprint → List ℕ
addresses f = take f.count f.places
