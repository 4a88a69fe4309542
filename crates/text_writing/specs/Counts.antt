-- How much of a buffer a count covers.
use Rattle.std.specs.Prelude.{ℕ, ◌≤◌, ◌≡◌, List, length, take}

-- the count is within the buffer, and that many bytes stand at its start
abbrev pub IsPrefixLen : ℕ → List ℕ → Type 0
IsPrefixLen n l = (n ≤ length l) × (n ≡ length (take n l))
