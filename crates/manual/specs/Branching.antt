-- Tests and branches (manual, chapter 4): compares, BIT, the eight conditions, and where a branch leads.
use Rattle.std.specs.Prelude.{ℕ, ◌+◌, ◌-◌, Bool, true, false, not, eqb, leb, pos, ◌+ℤ◌}
use Rattle.std.specs.Int.Bits.{bit_and}
use Rattle.registers.specs.declared.Registers.{Registers}
use Rattle.registers.specs.declared.Status.{Status}
use Rattle.registers.specs.StatusByte.{bit, bit_at}
use Rattle.instruction.specs.declared.BranchOperation.{BranchOperation}
use Rattle.instruction.specs.declared.BranchOperation.TheVariants.{BCC, BCS, BEQ, BMI, BNE, BPL, BVC, BVS}
use Rattle.manual.specs.declared.Effect.{Effect}
use Rattle.manual.specs.declared.Target.{Target}
use Rattle.manual.specs.Words.{low_byte, signed, around}
use Rattle.registers.specs.State.{set_nz, set_v, set_c, set_pc, flags}
use Rattle.manual.specs.Outcomes.{leaves}
use Rattle.manual.specs.Flags.{shown}

-- a register against a byte: C if it is at least the byte, N and Z of the difference
unfoldable pub compared : ℕ → ℕ → Registers → Registers
compared register m r = shown (low_byte (register + 256 - m)) (flags (set_c (leb m register)) r)

-- BIT: Z of A and M, N and V from bits 7 and 6 of M
unfoldable pub tested : ℕ → Registers → Registers
tested m r = flags (λ p. set_v (bit_at 6 m) (set_nz (bit_at 7 m) (eqb (bit_and r.accumulator m) 0) p)) r

abbrev pub holds : BranchOperation → Status → Bool
holds BCC p = not p.carry
holds BCS p = p.carry
holds BEQ p = p.zero
holds BMI p = p.negative
holds BNE p = not p.zero
holds BPL p = not p.negative
holds BVC p = not p.overflow
holds BVS p = p.overflow

-- the operand is a signed number, added to the counter that already stands past the branch
unfoldable pub branch_target : ℕ → ℕ → ℕ
branch_target counter offset = around (pos counter +ℤ signed offset)

-- taken: one cycle more, and another one if the target lies in another page than the advanced counter
unfoldable pub branched : Bool → Target → Registers → Effect
branched true t r = leaves (set_pc t.address r) (1 + bit t.crossed)
branched false t r = leaves r 0
