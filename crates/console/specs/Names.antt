-- The name of a file, as it is printed.
use Rattle.std.specs.Prelude.{ℕ, ◌≤◌, cond, List, map, eqb, ltb, length}
use Rattle.text_writing.specs.declared.Writer.{Writer}
use Rattle.text_writing.specs.Written.{Writes}

-- a control character is printed as a question mark, so that no name ends a line or moves a cursor
unfoldable pub printed : ℕ → ℕ
printed c = cond (ltb c 32) 63 (cond (eqb c 127) 63 c)

abbrev pub printed_name : List ℕ → List ℕ
printed_name name = map printed name

-- some name was written, of as many characters as a name may have
abbrev pub WritesName : Writer → Writer → Type 0
WritesName w w' = (name : List ℕ) × Writes w (printed_name name) w' × (length name ≤ 4096)
