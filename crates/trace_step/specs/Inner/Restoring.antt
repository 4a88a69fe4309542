-- Taking back what a step stored: the bytes that stood at its places are put back.
use Rattle.std.specs.Prelude.{ℕ, List, get_or, set}

-- ---- the places of a step

-- three bytes put at the first three places of a list
abbrev pub put_back : List ℕ → ℕ → ℕ → ℕ → List ℕ → List ℕ
put_back places first second third e = set (set (set e (get_or places 0 0) first) (get_or places 1 0) second) (get_or places 2 0) third
