-- The text line of a state, as it is printed: the last seven fields of the report's line, and LF.
use Rattle.std.specs.Prelude.{ℕ, ◌<◌, ◌^◌, ◌≡◌, true, List, ◌++◌}
use Rattle.manual.specs.declared.Machine.{Machine}
use Rattle.registers.specs.InRange.{InRange}
use Rattle.laws.specs.Characters.{characters}
use Rattle.trace_fields.specs.Fields.{machine_fields}

-- the machines that a text line spells: all that the code can hold, if the last level of NMI is high
pub record Spellable (s : Machine) : Type 0 where
  pub registers : InRange s.registers
  pub cycles : s.cycles < 2 ^ 64
  pub nmi : s.nmi ≡ true

abbrev pub line_text : Machine → List ℕ
line_text s = machine_fields s ++ characters "\n"

-- the most characters that it has
abbrev pub longest_line : ℕ
longest_line = 41
