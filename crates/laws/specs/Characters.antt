-- The characters of a text, so that a definition can spell it.
use Rattle.std.specs.Prelude.{ℕ, List, [], ◌∷◌}
use Prim.Native.Char.{code}
use Prim.Native.String.{String, [] as end, ◌∷◌ as ◌and◌}

-- their codes
abbrev pub characters : String → List ℕ
characters end = []
characters (c and s) = code c ∷ characters s
