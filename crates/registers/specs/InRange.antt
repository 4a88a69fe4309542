-- Registers that fit their widths: bytes, and a counter of 16 bits. Every value of the code does; the definition's numbers have no end.
use Rattle.std.specs.Prelude.{◌<◌}
use Rattle.registers.specs.declared.Registers.{Registers}

pub record InRange (r : Registers) : Type 0 where
  pub accumulator : r.accumulator < 256
  pub x : r.x < 256
  pub y : r.y < 256
  pub stack : r.stack.0 < 256
  pub counter : r.counter < 65536
