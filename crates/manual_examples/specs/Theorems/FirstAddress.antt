-- The first address on the bus (P8).
use Rattle.std.specs.Prelude.{ℕ, ◌≡◌, refl, List, [], ◌∷◌}
use Rattle.registers.specs.StatusByte.{pulled_status}
use Rattle.registers.specs.State.{set_a, set_s, set_pc, set_status, set_nz, set_c, flags}
use Rattle.instruction.specs.Opcodes.{rows, decoded}
use Rattle.manual.specs.Micro.{exec}
use Rattle.manual.specs.Words.{signed, around}
use Rattle.manual.specs.Flags.{shown}
use Rattle.manual.specs.Branching.{branch_target, branched}
use Rattle.manual.specs.Addressing.{target}
use Rattle.manual.specs.Internal.{internal}
use Rattle.manual.specs.Stack.{push, push_address}
use Rattle.manual.specs.Shifting.{modified_flags}
use Rattle.manual.specs.Interrupts.{idle}
use Rattle.manual.specs.Instructions.{applied, modify, perform}
use Rattle.manual.specs.Stepping.{act, attend, step_full, step}
use Rattle.manual.specs.Inner.Laying.{memory, machine}

-- the first address of a step, of a program at 0200 with X and Y
abbrev first_of : ℕ → ℕ → List ℕ → ℕ
first_of x y bytes = (exec (step 65536 idle (machine 0 0x0200 0 x y 0xFF 0x30)) (memory ((0x0200, bytes) ∷ (0x00F0, 0xF0 ∷ 0x10 ∷ []) ∷ []))).0.first

-- Over a page and not: a read, a store, a modification, a pointer; in the zero page; JMP and JSR. And those that put none out: an immediate
-- operand, a branch that is taken, an implied and an accumulator form, and a byte that is no opcode.
pub first_examples : first_of 0x20 0 (0xBD ∷ 0xF0 ∷ 0x10 ∷ [])
    ∷ first_of 0x01 0 (0xBD ∷ 0xF0 ∷ 0x10 ∷ [])
    ∷ first_of 0x20 0 (0x9D ∷ 0xF0 ∷ 0x10 ∷ [])
    ∷ first_of 0x20 0 (0xFE ∷ 0xF0 ∷ 0x10 ∷ [])
    ∷ first_of 0 0x20 (0xB1 ∷ 0xF0 ∷ [])
    ∷ first_of 0x20 0 (0xB5 ∷ 0xF0 ∷ [])
    ∷ first_of 0 0 (0x4C ∷ 0x34 ∷ 0x12 ∷ [])
    ∷ first_of 0 0 (0x20 ∷ 0x34 ∷ 0x12 ∷ [])
    ∷ first_of 0 0 (0xA9 ∷ 0x05 ∷ [])
    ∷ first_of 0 0 (0xD0 ∷ 0x05 ∷ [])
    ∷ first_of 0 0 (0xE8 ∷ [])
    ∷ first_of 0 0 (0x0A ∷ [])
    ∷ first_of 0 0 (0x02 ∷ [])
    ∷ []
    ≡ 0x1010 ∷ 0x10F1 ∷ 0x1010 ∷ 0x1010 ∷ 0x1010 ∷ 0x0010 ∷ 0x1234 ∷ 0x1234 ∷ 0 ∷ 0 ∷ 0 ∷ 0 ∷ 0 ∷ []
unfolding signed around branch_target branched push push_address set_s pulled_status rows decoded set_a set_pc set_status set_nz set_c flags shown target internal modified_flags applied modify perform act attend step_full step
first_examples = refl
