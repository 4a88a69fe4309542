-- The instructions that work on registers and flags alone (manual, chapter 7: X and Y; chapter 3: the flags; chapter 8: TXS and TSX).
use Rattle.std.specs.Prelude.{true, false}
use Rattle.registers.specs.declared.Registers.{Registers}
use Rattle.instruction.specs.declared.InternalOperation.{InternalOperation}
use Rattle.instruction.specs.declared.InternalOperation.TheVariants.{CLC, CLD, CLI, CLV, DEX, DEY, INX, INY, NOP, SEC, SED, SEI, TAX, TAY, TSX, TXA, TXS, TYA}
use Rattle.registers.specs.State.{set_s, set_v, set_d, set_i, set_c, flags, up, down}
use Rattle.manual.specs.Flags.{load_a, load_x, load_y}

unfoldable pub internal : InternalOperation → Registers → Registers
internal TAX r = load_x r.accumulator r
internal TAY r = load_y r.accumulator r
internal TSX r = load_x r.stack.0 r
internal TXA r = load_a r.x r
internal TYA r = load_a r.y r
internal TXS r = set_s r.x r
internal INX r = load_x (up r.x) r
internal INY r = load_y (up r.y) r
internal DEX r = load_x (down r.x) r
internal DEY r = load_y (down r.y) r
internal CLC r = flags (set_c false) r
internal CLD r = flags (set_d false) r
internal CLI r = flags (set_i false) r
internal CLV r = flags (set_v false) r
internal SEC r = flags (set_c true) r
internal SED r = flags (set_d true) r
internal SEI r = flags (set_i true) r
internal NOP r = r
