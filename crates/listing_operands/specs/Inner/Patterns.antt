-- The code's patterns: the notation of a mode with letters for its numbers.
use Rattle.std.specs.Prelude.{ℕ, cond, List, [], ◌∷◌, ◌++◌, eqb}
use Rattle.laws.specs.Characters.{characters}
use Rattle.instruction.specs.declared.AddressingMode.{AddressingMode}
use Rattle.text_writing.specs.Numerals.{hex2, hex4}
use Rattle.listing_operands.specs.Operands.{written}

-- the notation with b, w and t for the byte, the word and the target
unfoldable pub pattern_of : AddressingMode → List ℕ
pattern_of mode = written mode (characters "b") (characters "w") (characters "t")

-- what a character of it stands for
abbrev pub stands_for : ℕ → ℕ → ℕ → ℕ → List ℕ
stands_for byte word target c =
    cond (eqb c 98) (hex2 byte) (cond (eqb c 119) (hex4 word) (cond (eqb c 116) (hex4 target) (c ∷ [])))

abbrev pub filled : ℕ → ℕ → ℕ → List ℕ → List ℕ
filled byte word target [] = []
filled byte word target (c ∷ pattern) = stands_for byte word target c ++ filled byte word target pattern
