-- What is compared of a step, and in which order.
use Rattle.std.specs.Prelude.{ℕ, ◌+◌, ◌*◌, Bool, not, cond, List, eqb}
use Rattle.registers.specs.State.{registers_of}
use Rattle.registers.specs.StatusByte.{bit, bit_at, pushed_byte, pulled_status}
use Rattle.manual.specs.declared.Lines.{Lines}
use Rattle.manual.specs.declared.Machine.{Machine}
use Rattle.manual.specs.declared.Stepped.{Stepped}
use Rattle.manual.specs.Outcomes.{machine_of, number}
use Rattle.mos6502_numbers.specs.Machines.{lines_from}
use Rattle.replay_list.specs.declared.State.{State}
use Rattle.program_replay.specs.declared.compare.Verdict.{Verdict}
use Rattle.program_replay.specs.SameBytes.{same_bytes}

-- the machine of a state that was read: bit 2 of the levels is set if NMI was low at the last step
abbrev pub machine_at : State → Machine
machine_at s =
    machine_of (registers_of s.accumulator s.x s.y s.stack s.counter (pulled_status s.status)) s.cycles
    (not (bit_at 2 s.levels))

abbrev pub lines_at : State → Lines
lines_at s = lines_from s.levels

-- the three levels as a text line has them
unfoldable pub levels_byte : Lines → Bool → ℕ
levels_byte lines nmi = bit (not lines.nmi) + bit (not lines.irq) * 2 + bit (not nmi) * 4

-- the first part that differs, the memory last
unfoldable pub compared : Machine → Lines → State → Bool → Verdict
compared m lines s memory =
    cond (eqb m.registers.counter s.counter)
    (cond (eqb m.registers.accumulator s.accumulator)
    (cond (eqb m.registers.x s.x)
    (cond (eqb m.registers.y s.y)
    (cond (eqb m.registers.stack.0 s.stack)
    (cond (eqb (pushed_byte m.registers.status) s.status)
    (cond (eqb m.cycles s.cycles)
    (cond (eqb (levels_byte lines m.nmi) s.levels) (cond memory Verdict.Same Verdict.Memory) Verdict.Levels)
    Verdict.Cycles)
    Verdict.Status)
    Verdict.Stack)
    Verdict.Y)
    Verdict.X)
    Verdict.Accumulator)
    Verdict.Counter

-- a step with these lines is compared with a state and a memory, its answer first
unfoldable pub judged : Stepped × List ℕ → Lines → State → List ℕ → Verdict
judged (q, m) lines s expected =
    cond (eqb (number q.reason) s.number) (compared q.machine lines s (same_bytes m expected)) Verdict.Answer
