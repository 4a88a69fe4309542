-- A step and the runs, with their refusals. Each takes the present levels of the lines, which hold for the whole of it.
use Rattle.std.specs.Prelude.{ℕ, zero, suc, ◌+◌, Bool, true, cond, eqb, leb, ltb, Option, Some, None}
use Rattle.instruction.specs.declared.Entry.{Entry}
use Rattle.registers.specs.declared.Registers.{Registers}
use Rattle.instruction.specs.Opcodes.{decoded}
use Rattle.manual.specs.declared.Lines.{Lines}
use Rattle.manual.specs.declared.Machine.{Machine}
use Rattle.manual.specs.declared.Stepped.{Stepped}
use Rattle.manual.specs.declared.Ended.{Ended}
use Rattle.manual.specs.declared.Reason.TheVariants.{Made, MemoryNotFull, NoCycleRoom, NotAnOpcode, BoundTooHigh}
use Rattle.manual.specs.Micro.{Micro, done, ◌>>=◌, fetch}
use Rattle.manual.specs.Outcomes.{machine_of, is_made, stepped, refused, ended}
use Rattle.manual.specs.Interrupts.{serving_cycles, served, due}
use Rattle.manual.specs.Instructions.{perform}

abbrev pub full_memory : ℕ
full_memory = 65536

-- the highest count from which seven more cycles fit in 64 bits
abbrev pub highest_count : ℕ
highest_count = 18446744073709551608

abbrev pub highest_bound : ℕ
highest_bound = 1000000

-- a step that is made, by its first address on the bus, the registers and the cycles that it took: the present level of NMI becomes
-- the last one
abbrev pub made : Lines → Machine → ℕ → Registers → ℕ → Stepped
made lines s first r cycles = stepped Made first (machine_of r (s.cycles + cycles) lines.nmi)

-- what an opcode's row does: its cycles and the extra ones are added
unfoldable pub act : Option Entry → Lines → Machine → Micro Stepped
act (Some entry) lines s = do
  effect ← perform entry.instruction entry.mode s.registers
  done (made lines s effect.first effect.registers (entry.cycles + effect.extra))
act None lines s = done (refused NotAnOpcode s)

-- a line is served in place of an opcode, which is not read; otherwise the byte at the counter is one
unfoldable pub attend : Option ℕ → Lines → Machine → Micro Stepped
attend (Some vector) lines s = do
  r ← served vector s.registers
  done (made lines s 0 r serving_cycles)
attend None lines s = do
  opcode ← fetch s.registers.counter
  act (decoded opcode) lines s

-- a step on a full memory
unfoldable pub step_full : Lines → Machine → Micro Stepped
step_full lines s = cond (ltb highest_count s.cycles) (done (refused NoCycleRoom s)) (attend (due lines s) lines s)

-- a step on a memory of any length
unfoldable pub step : ℕ → Lines → Machine → Micro Stepped
step size lines s = cond (eqb size full_memory) (step_full lines s) (done (refused MemoryNotFull s))

-- n more steps on a full memory, after k, as long as the machine passes a test
unfoldable pub run_while : (Machine → Bool) → ℕ → ℕ → Lines → Machine → Micro Ended
run_while goes zero k lines s = done (ended Made k s)
run_while goes (suc n) k lines s =
    cond (goes s)
    (do
      q ← step_full lines s
      cond (is_made q.reason) (run_while goes n (k + 1) lines q.machine) (done (ended q.reason k q.machine)))
    (done (ended Made k s))

-- n more steps, and at most n more steps until the cycle count is `until` or more
unfoldable pub run_full : ℕ → ℕ → Lines → Machine → Micro Ended
run_full n k lines s = run_while (λ s. true) n k lines s

unfoldable pub spend_full : ℕ → ℕ → ℕ → Lines → Machine → Micro Ended
spend_full n until k lines s = run_while (λ s. ltb s.cycles until) n k lines s

-- a run is refused if the memory is not full, and then if its bound or its limit is too high
abbrev pub on_full : ℕ → Machine → Micro Ended → Micro Ended
on_full size s p = cond (eqb size full_memory) p (done (ended MemoryNotFull 0 s))

abbrev pub bounded : ℕ → Machine → Micro Ended → Micro Ended
bounded bound s p = cond (leb bound highest_bound) p (done (ended BoundTooHigh 0 s))

-- a run of at most `bound` steps on a memory of any length
unfoldable pub run : ℕ → ℕ → Lines → Machine → Micro Ended
run size bound lines s = on_full size s (bounded bound s (run_full bound 0 lines s))

-- a run of any number of steps
unfoldable pub long_run : ℕ → ℕ → Lines → Machine → Micro Ended
long_run size bound lines s = on_full size s (run_full bound 0 lines s)

-- A run that is over when `limit` or more cycles are spent (P11). Each step takes a cycle or more, so it never needs more than `limit` steps: the
-- answer table of Theorems/Spending has no such number.
unfoldable pub run_cycles : ℕ → ℕ → Lines → Machine → Micro Ended
run_cycles size limit lines s = on_full size s (bounded limit s (spend_full limit (s.cycles + limit) 0 lines s))
