-- A machine as text: the last seven fields of the report's line, one space apart.
use Rattle.std.specs.Prelude.{ℕ, List, ◌++◌}
use Rattle.registers.specs.declared.Registers.{Registers}
use Rattle.registers.specs.StatusByte.{pushed_byte}
use Rattle.manual.specs.declared.Machine.{Machine}
use Rattle.text_writing.specs.Numerals.{hex2, hex4, decimal, spaced}

-- A, X, Y, S, and the status as PHP pushes it
abbrev pub register_fields : Registers → List ℕ
register_fields r =
    spaced (hex2 r.accumulator)
    ++ spaced (hex2 r.x)
    ++ spaced (hex2 r.y)
    ++ spaced (hex2 r.stack.0)
    ++ spaced (hex2 (pushed_byte r.status))

-- the cycles and the counter stand before them
unfoldable pub machine_fields : Machine → List ℕ
machine_fields s = decimal s.cycles ++ spaced (hex4 s.registers.counter) ++ register_fields s.registers
