-- The worked examples of docs/RULES.md, computed on full memories: the starred ones together over one list, and the others after them.
use Rattle.std.specs.Prelude.{ℕ, ◌≡◌, refl, List, [], ◌∷◌, map, get_or}
use Rattle.registers.specs.StatusByte.{status_byte, pulled_status}
use Rattle.instruction.specs.Opcodes.{rows, decoded}
use Rattle.manual.specs.declared.Lines.{Lines}
use Rattle.manual.specs.declared.Machine.{Machine}
use Rattle.manual.specs.Micro.{exec}
use Rattle.manual.specs.Words.{signed, outside, around}
use Rattle.registers.specs.State.{set_a, set_x, set_y, set_s, set_pc, set_status, set_nz, set_v, set_c, set_i, flags}
use Rattle.manual.specs.Flags.{shown}
use Rattle.manual.specs.Arithmetic.{sum_overflows, difference_overflows, binary_sum, binary_difference}
use Rattle.manual.specs.Decimal.{decimal_sum, decimal_difference}
use Rattle.manual.specs.Branching.{tested, branch_target, branched}
use Rattle.manual.specs.Addressing.{target}
use Rattle.manual.specs.Internal.{internal}
use Rattle.manual.specs.Stack.{push, pull, push_address, pull_address}
use Rattle.manual.specs.Shifting.{modified_flags}
use Rattle.manual.specs.Interrupts.{enter, idle}
use Rattle.manual.specs.Instructions.{sum, difference, with_output, applied, modify, perform}
use Rattle.manual.specs.declared.Reason.{Reason}
use Rattle.manual.specs.declared.Reason.TheVariants.{Made, NotAnOpcode}
use Rattle.manual.specs.Outcomes.{ended}
use Rattle.manual.specs.Stepping.{run_while, act, attend, step_full, step, run_full, run}
use Rattle.manual.specs.Inner.Laying.{machine, Laid, memory}

-- a machine and a memory; the reason that a step gives, the machine that it leaves, and the byte that it leaves at a place
pub record Example : Type 0 where
  pub before : Machine
  pub bytes : List Laid
  pub reason : Reason
  pub left : Machine
  pub place : ℕ
  pub byte : ℕ

abbrev pub outcome : Lines → Example → Reason × Machine × ℕ
outcome lines e = let w = exec (step 65536 lines e.before) (memory e.bytes) in (w.0.reason, w.0.machine, get_or w.1 e.place 0)

abbrev pub expected : Example → Reason × Machine × ℕ
expected e = (e.reason, e.left, e.byte)

-- if no byte is looked at, one that stays 0
abbrev pub example : Machine → List Laid → Reason → Machine → Example
example before bytes reason left = record { before = before; bytes = bytes; reason = reason; left = left; place = 0x00F0; byte = 0 }

-- a step that is made, and the byte that it leaves at a place
abbrev pub leaving : Machine → List Laid → Machine → ℕ → ℕ → Example
leaving before bytes left place byte = record { before = before; bytes = bytes; reason = Made; left = left; place = place; byte = byte }

unfoldable pub starred : List Example
starred =
    -- JMP (10FF): high byte from 1000
    example (machine 0 0x0200 0 0 0 0xFF 0x30) ((0x0200, 0x6C ∷ 0xFF ∷ 0x10 ∷ []) ∷ (0x10FF, 0x34 ∷ 0x56 ∷ []) ∷ (0x1000, 0x12 ∷ []) ∷ []) Made
    (machine 5 0x1234 0 0 0 0xFF 0x30)
    -- LDA (FF),Y: pointer bytes at 00FF, 0000
    ∷ example (machine 0 0x0200 0 0 2 0xFF 0x30)
    ((0x0200, 0xB1 ∷ 0xFF ∷ []) ∷ (0x00FF, 0x10 ∷ 0x40 ∷ []) ∷ (0x0000, 0x30 ∷ []) ∷ (0x3012, 0x77 ∷ []) ∷ []) Made
    (machine 5 0x0202 0x77 0 2 0xFF 0x30)
    -- LDA FFFF,X, X 1: reads 0000, 5 cycles
    ∷ example (machine 0 0x0200 0 1 0 0xFF 0x30) ((0x0200, 0xBD ∷ 0xFF ∷ 0xFF ∷ []) ∷ (0x0000, 0x07 ∷ []) ∷ []) Made
    (machine 5 0x0203 0x07 1 0 0xFF 0x30)
    -- BNE taken at 10FD, offset 01: to 1100, 4 cycles
    ∷ example (machine 0 0x10FD 0 0 0 0xFF 0x30) ((0x10FD, 0xD0 ∷ 0x01 ∷ []) ∷ []) Made (machine 4 0x1100 0 0 0 0xFF 0x30)
    -- at 10FE, offset 00: to 1100, 3 cycles
    ∷ example (machine 0 0x10FE 0 0 0 0xFF 0x30) ((0x10FE, 0xD0 ∷ 0x00 ∷ []) ∷ []) Made (machine 3 0x1100 0 0 0 0xFF 0x30)
    -- SBC A 05, M 03, C 1: A 02, C 1, V 0
    ∷ example (machine 0 0x0200 0x05 0 0 0xFF 0x31) ((0x0200, 0xE9 ∷ 0x03 ∷ []) ∷ []) Made (machine 2 0x0202 0x02 0 0 0xFF 0x31)
    -- SBC A FF, M 80, C 1: A 7F, C 1, V 0
    ∷ example (machine 0 0x0200 0xFF 0 0 0xFF 0x31) ((0x0200, 0xE9 ∷ 0x80 ∷ []) ∷ []) Made (machine 2 0x0202 0x7F 0 0 0xFF 0x31)
    -- SBC A 7F, M 80, C 0: A FE, C 0, V 1, N 1
    ∷ example (machine 0 0x0200 0x7F 0 0 0xFF 0x30) ((0x0200, 0xE9 ∷ 0x80 ∷ []) ∷ []) Made (machine 2 0x0202 0xFE 0 0 0xFF 0xF0)
    -- ADC A 7F, M 00, C 1: A 80, V 1, C 0
    ∷ example (machine 0 0x0200 0x7F 0 0 0xFF 0x31) ((0x0200, 0x69 ∷ 0x00 ∷ []) ∷ []) Made (machine 2 0x0202 0x80 0 0 0xFF 0xF0)
    -- decimal ADC 58, 46, C 1: A 05, C 1
    ∷ example (machine 0 0x0200 0x58 0 0 0xFF 0x39) ((0x0200, 0x69 ∷ 0x46 ∷ []) ∷ []) Made (machine 2 0x0202 0x05 0 0 0xFF 0x79)
    -- PHA with S 00: stores at 0100, S FF
    ∷ leaving (machine 0 0x0200 0x42 0 0 0x00 0x30) ((0x0200, 0x48 ∷ []) ∷ []) (machine 3 0x0201 0x42 0 0 0xFF 0x30) 0x0100 0x42
    -- opcode 02: answer 3
    ∷ example (machine 0 0x0200 0 0 0 0xFF 0x30) ((0x0200, 0x02 ∷ []) ∷ []) NotAnOpcode (machine 0 0x0200 0 0 0 0xFF 0x30)
    ∷ []

-- The starred examples, together.
pub starred_examples : map (outcome idle) starred ≡ map expected starred
unfolding starred pulled_status rows decoded signed outside around set_a set_x set_y set_s set_pc set_status set_nz set_v set_c set_i flags shown sum_overflows difference_overflows binary_sum binary_difference decimal_sum branch_target branched target push sum difference with_output applied perform act attend step_full step
starred_examples = refl

-- The examples without a star, and some for rules that no theorem says in other terms.
unfoldable pub others : List Example
others =
    -- LDA imm at FFFF: operand at 0000, counter 0001
    example (machine 0 0xFFFF 0 0 0 0xFF 0x30) ((0xFFFF, 0xA9 ∷ []) ∷ (0x0000, 0x05 ∷ []) ∷ []) Made (machine 2 0x0001 0x05 0 0 0xFF 0x30)
    -- ROL A of 40, C 1: 81, C 0
    ∷ example (machine 0 0x0200 0x40 0 0 0xFF 0x31) ((0x0200, 0x2A ∷ []) ∷ []) Made (machine 2 0x0201 0x81 0 0 0xFF 0xB0)
    -- LDA 80,X with X 90 stays in the zero page
    ∷ example (machine 0 0x0200 0 0x90 0 0xFF 0x30) ((0x0200, 0xB5 ∷ 0x80 ∷ []) ∷ (0x0010, 0x55 ∷ []) ∷ []) Made (machine 4 0x0202 0x55 0x90 0 0xFF 0x30)
    -- STA 10F0,X crosses a page and is not charged for it; nor is INC
    ∷ leaving (machine 0 0x0200 0x99 0x20 0 0xFF 0x30) ((0x0200, 0x9D ∷ 0xF0 ∷ 0x10 ∷ []) ∷ []) (machine 5 0x0203 0x99 0x20 0 0xFF 0x30) 0x1110 0x99
    ∷ leaving (machine 0 0x0200 0 0x20 0 0xFF 0x30) ((0x0200, 0xFE ∷ 0xF0 ∷ 0x10 ∷ []) ∷ (0x1110, 0x7F ∷ []) ∷ [])
    (machine 7 0x0203 0 0x20 0 0xFF 0xB0) 0x1110 0x80
    -- a branch back: the offset FE is minus 2
    ∷ example (machine 0 0x0200 0 0 0 0xFF 0x30) ((0x0200, 0xD0 ∷ 0xFE ∷ []) ∷ []) Made (machine 3 0x0200 0 0 0 0xFF 0x30)
    -- JSR pushes the opcode's address + 2, high byte first; RTS adds 1; RTI does not, and drops bits 4 and 5
    ∷ leaving (machine 0 0x02FD 0 0 0 0xFF 0x30) ((0x02FD, 0x20 ∷ 0x00 ∷ 0x30 ∷ []) ∷ []) (machine 6 0x3000 0 0 0 0xFD 0x30) 0x01FF 0x02
    ∷ example (machine 0 0x3000 0 0 0 0xFD 0x30) ((0x3000, 0x60 ∷ []) ∷ (0x01FE, 0xFF ∷ 0x02 ∷ []) ∷ []) Made (machine 6 0x0300 0 0 0 0xFF 0x30)
    ∷ example (machine 0 0x3000 0 0 0 0xFC 0x30) ((0x3000, 0x40 ∷ []) ∷ (0x01FD, 0xC3 ∷ 0x34 ∷ 0x12 ∷ []) ∷ []) Made (machine 6 0x1234 0 0 0 0xFF 0xF3)
    -- JSR at 017B with S 7D pushes onto its own operand, and goes to 0155, not to 1355
    ∷ leaving (machine 0 0x017B 0 0 0 0x7D 0x30) ((0x017B, 0x20 ∷ 0x55 ∷ 0x13 ∷ []) ∷ []) (machine 6 0x0155 0 0 0 0x7B 0x30) 0x017D 0x01
    -- BRK pushes the opcode's address + 2 and the status, sets I, keeps D and goes through FFFE
    ∷ leaving (machine 0 0x0200 0 0 0 0xFF 0x39) ((0xFFFE, 0x00 ∷ 0x40 ∷ []) ∷ []) (machine 7 0x4000 0 0 0 0xFC 0x3D) 0x01FD 0x39
    -- BIT: Z of A and M, N and V from M
    ∷ example (machine 0 0x0200 0x3F 0 0 0xFF 0x30) ((0x0200, 0x2C ∷ 0x00 ∷ 0x30 ∷ []) ∷ (0x3000, 0xC0 ∷ []) ∷ []) Made (machine 4 0x0203 0x3F 0 0 0xFF 0xF2)
    -- TXS sets no flag
    ∷ example (machine 0 0x0200 0 0 0 0xFF 0x30) ((0x0200, 0x9A ∷ []) ∷ []) Made (machine 2 0x0201 0 0 0 0x00 0x30)
    -- decimal SBC 42, 17, C 1: A 25, C 1
    ∷ example (machine 0 0x0200 0x42 0 0 0xFF 0x39) ((0x0200, 0xE9 ∷ 0x17 ∷ []) ∷ []) Made (machine 2 0x0202 0x25 0 0 0xFF 0x39)
    ∷ []

pub other_examples : map (outcome idle) others ≡ map expected others
unfolding others pulled_status status_byte rows decoded signed outside around set_a set_x set_s set_pc set_status set_nz set_v set_c set_i flags shown difference_overflows decimal_difference tested branch_target branched target push pull push_address pull_address difference with_output applied internal modified_flags modify enter perform act attend step_full step
other_examples = refl

-- The report's example: LDA #05, then a byte that is no opcode. The report prints `3 1 2 0202 05 00 00 FF 34`.
pub report_image_lem : (exec (run 65536 1000 idle (machine 0 0x0200 0 0 0 0xFF 0x34)) (memory ((0xFFFD, 0x02 ∷ []) ∷ (0x0200, 0xA9 ∷ 0x05 ∷ 0x02 ∷ []) ∷ []))).0
    ≡ ended NotAnOpcode 1 (machine 2 0x0202 0x05 0 0 0xFF 0x34)
unfolding pulled_status rows decoded set_a set_pc set_status set_nz flags shown target applied perform act attend step_full run_full run_while run
report_image_lem = refl
