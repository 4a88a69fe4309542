-- The three demands of the request (docs/RULES.md), of the C functions themselves: `mos6502_step`, `mos6502_run`, `mos6502_long_run` and
-- `mos6502_run_cycles`. This file says what holds of them, and nothing else. The theorem is `correct` (Proved.antt): all of it holds.
--
-- Each function promises a call: `RunCall`, `LongRunCall` and `CyclesCall` stand in src/lib.rt as they stand here, and `StepCall` in mos6502_step. A call is given
-- two numbers, the registers and the cycle count, the levels of the lines, and a memory m. `v` is what comes back in its result and in the
-- numbers that it was lent, and `m'` is the memory that it leaves. `step`, `run`, `long_run` and `run_cycles` are the definition's (Stepping).
use Rattle.std.specs.Prelude.{ℕ, ◌+◌, ◌≤◌, ◌≡◌, ◌↔◌, ◌⊎◌, List, length}
use Rattle.manual.specs.declared.Lines.{Lines}
use Rattle.manual.specs.declared.Machine.{Machine}
use Rattle.manual.specs.declared.Stepped.{Stepped}
use Rattle.manual.specs.declared.Ended.{Ended}
use Rattle.manual.specs.Micro.{exec, stores}
use Rattle.manual.specs.Outcomes.{number}
use Rattle.manual.specs.Stepping.{full_memory, highest_bound, step, run, long_run, run_cycles}
use Rattle.manual.specs.ReadList.{listed_step, listed_run, listed_long_run, listed_run_cycles}
use Rattle.manual.proofs.Theorems.Answers.{NoRoom, NoOpcode, Served, Ready}
use Rattle.manual.proofs.Theorems.RunAnswers.{Leads}
use Rattle.manual.proofs.Theorems.Spending.{Before}
use Rattle.manual.proofs.Theorems.Sealed.{Differ, Unsealed, Kept}
use Rattle.manual.specs.Theorems.Within.{Bytes}
use Rattle.mos6502_numbers.specs.Machines.{machine_from, lines_from}
use Rattle.mos6502.specs.Numbers.{StepNumbers, RunNumbers}
use Rattle.mos6502.specs.Calls.{StepCall, RunCall, LongRunCall, CyclesCall}

-- the machine of the numbers that come back
abbrev pub left : RunNumbers → Machine
left v = machine_from v.registers v.cycles

module _ (registers cycles lines : ℕ) where
  -- the machine and the levels that a call is given
  abbrev pub given : Machine
  given = machine_from registers cycles

  abbrev pub levels : Lines
  levels = lines_from lines

  module _ (m : List ℕ) where
    -- ==== Demand 1. Every step and every run, on any registers, any lent memory and any step bound, ends with an answer from the table. A
    -- refused step returns its registers and cycle count and changes no byte; a stopped run gives the state after the steps it made, and
    -- their number.

    -- The table for a step: each answer is given exactly when the table says.
    pub record StepAnswered (v : StepNumbers) (m' : List ℕ) : Type 0 where
      -- a line is served, or the opcode is one of the 151
      pub zero : (v.answer ≡ 0) ↔ ((length m ≡ full_memory) × (Served levels given ⊎ Ready levels given m))
      -- the memory is not 65,536 bytes long
      pub one : (v.answer ≡ 1) ↔ (length m ≡ full_memory → ⊥)
      -- the cycle count leaves no room
      pub two : (v.answer ≡ 2) ↔ ((length m ≡ full_memory) × NoRoom given)
      -- the opcode is none of the 151
      pub three : (v.answer ≡ 3) ↔ ((length m ≡ full_memory) × NoOpcode levels given m)
      pub no_other : v.answer ≤ 3
      -- a refused step
      pub unchanged : (v.answer ≡ 0 → ⊥) → (v.registers ≡ registers) × (v.cycles ≡ cycles) × (v.first ≡ 0) × (m' ≡ m)

    -- The table for a run. `allowed`: its bound is not too high. `over`: it went as far as it was asked to.
    pub record RunAnswered (allowed over : Type 0) (v : RunNumbers) (m' : List ℕ) : Type 0 where
      pub zero : (v.answer ≡ 0) ↔ ((length m ≡ full_memory) × allowed × over)
      pub one : (v.answer ≡ 1) ↔ (length m ≡ full_memory → ⊥)
      -- it is not over, and the state that is left is one in which the next step is refused
      pub two : (v.answer ≡ 2) ↔ ((length m ≡ full_memory) × allowed × (over → ⊥) × NoRoom (left v))
      pub three : (v.answer ≡ 3) ↔ ((length m ≡ full_memory) × allowed × (over → ⊥) × NoOpcode levels (left v) m')
      pub four : (v.answer ≡ 4) ↔ ((length m ≡ full_memory) × (allowed → ⊥))
      pub no_other : v.answer ≤ 4
      -- the state after the steps that it made, and their number
      pub made : Leads v.steps levels given m (left v) m'
      -- with 1 and 4 none is made, and if none is made nothing is changed
      pub none : (v.answer ≡ 1) ⊎ (v.answer ≡ 4) → v.steps ≡ 0
      pub unchanged : v.steps ≡ 0 → (v.registers ≡ registers) × (v.cycles ≡ cycles) × (m' ≡ m)

    -- A run is over when all its steps are made; a long run may have any bound. One by cycles is over when its limit or more is spent, and it
    -- was not so before any step that it made (`Before`).
    pub record Answered : Type 0 where
      pub step_answered : {v : StepNumbers} {m' : List ℕ} → StepCall registers cycles lines m v m' → StepAnswered v m'
      pub run_answered : (bound : ℕ) {v : RunNumbers} {m' : List ℕ} → RunCall registers cycles bound lines m v m'
          → RunAnswered (bound ≤ highest_bound) (v.steps ≡ bound) v m'
      pub long_run_answered : (bound : ℕ) {v : RunNumbers} {m' : List ℕ} → LongRunCall registers cycles bound lines m v m'
          → RunAnswered (Unit {0}) (v.steps ≡ bound) v m'
      pub cycles_answered : (limit : ℕ) {v : RunNumbers} {m' : List ℕ} → CyclesCall registers cycles limit lines m v m'
          → RunAnswered (limit ≤ highest_bound) (cycles + limit ≤ v.cycles) v m' × Before v.steps (cycles + limit) levels given m

    -- ==== Demand 2. Step and run are equal to the definition: answer, registers, flags, memory, cycles and step count.

    -- w is what the definition gives and leaves; its machine is the registers with the flags, the cycle count and the last level of NMI
    pub record StepEquals (w : Stepped × List ℕ) (v : StepNumbers) (m' : List ℕ) : Type 0 where
      pub answer : v.answer ≡ number w.0.reason
      pub machine : machine_from v.registers v.cycles ≡ w.0.machine
      pub first : v.first ≡ w.0.first
      pub memory : m' ≡ w.1

    pub record RunEquals (w : Ended × List ℕ) (v : RunNumbers) (m' : List ℕ) : Type 0 where
      pub answer : v.answer ≡ number w.0.reason
      pub machine : left v ≡ w.0.machine
      pub steps : v.steps ≡ w.0.steps
      pub memory : m' ≡ w.1

    pub record Equal : Type 0 where
      pub step_equals : {v : StepNumbers} {m' : List ℕ} → StepCall registers cycles lines m v m'
          → StepEquals (exec (step (length m) levels given) m) v m'
      pub run_equals : (bound : ℕ) {v : RunNumbers} {m' : List ℕ} → RunCall registers cycles bound lines m v m'
          → RunEquals (exec (run (length m) bound levels given) m) v m'
      pub long_run_equals : (bound : ℕ) {v : RunNumbers} {m' : List ℕ} → LongRunCall registers cycles bound lines m v m'
          → RunEquals (exec (long_run (length m) bound levels given) m) v m'
      pub cycles_equal : (limit : ℕ) {v : RunNumbers} {m' : List ℕ} → CyclesCall registers cycles limit lines m v m'
          → RunEquals (exec (run_cycles (length m) limit levels given) m) v m'

    -- and a promise admits one result
    pub record OneResult : Type 0 where
      pub step_one : {v w : StepNumbers} {m' m'' : List ℕ} → StepCall registers cycles lines m v m' → StepCall registers cycles lines m w m''
          → (v ≡ w) × (m' ≡ m'')
      pub run_one : (bound : ℕ) {v w : RunNumbers} {m' m'' : List ℕ} → RunCall registers cycles bound lines m v m'
          → RunCall registers cycles bound lines m w m''
          → (v ≡ w) × (m' ≡ m'')
      pub long_run_one : (bound : ℕ) {v w : RunNumbers} {m' m'' : List ℕ} → LongRunCall registers cycles bound lines m v m'
          → LongRunCall registers cycles bound lines m w m''
          → (v ≡ w) × (m' ≡ m'')
      pub cycles_one : (limit : ℕ) {v w : RunNumbers} {m' m'' : List ℕ} → CyclesCall registers cycles limit lines m v m'
          → CyclesCall registers cycles limit lines m w m''
          → (v ≡ w) × (m' ≡ m'')

  -- ==== Demand 3. Start two runs from the same registers, cycle count and step bound, with full memories that differ only at sealed addresses
  -- (`Differ`). If the first, by the rules' list, reads no sealed address (`Unsealed`), then both give the same reason, step count, registers
  -- and cycles, and the same bytes elsewhere; a sealed byte the first stored to is equal in both, any other sealed byte keeps its own
  -- starting value (`Kept`).

  pub record Apart (Sealed : ℕ → Type 0) (m₁ m₂ : List ℕ) : Type 0 where
    pub step_apart : {v₁ v₂ : StepNumbers} {e₁ e₂ : List ℕ} → Unsealed Sealed (listed_step (length m₁) levels given m₁)
        → StepCall registers cycles lines m₁ v₁ e₁ → StepCall registers cycles lines m₂ v₂ e₂
        → (v₁ ≡ v₂) × Kept Sealed (stores (step (length m₁) levels given) m₁) m₁ m₂ e₁ e₂
    pub run_apart : (bound : ℕ) {v₁ v₂ : RunNumbers} {e₁ e₂ : List ℕ} → Unsealed Sealed (listed_run (length m₁) bound levels given m₁)
        → RunCall registers cycles bound lines m₁ v₁ e₁ → RunCall registers cycles bound lines m₂ v₂ e₂
        → (v₁ ≡ v₂) × Kept Sealed (stores (run (length m₁) bound levels given) m₁) m₁ m₂ e₁ e₂
    pub long_run_apart : (bound : ℕ) {v₁ v₂ : RunNumbers} {e₁ e₂ : List ℕ} → Unsealed Sealed (listed_long_run (length m₁) bound levels given m₁)
        → LongRunCall registers cycles bound lines m₁ v₁ e₁ → LongRunCall registers cycles bound lines m₂ v₂ e₂
        → (v₁ ≡ v₂) × Kept Sealed (stores (long_run (length m₁) bound levels given) m₁) m₁ m₂ e₁ e₂
    pub cycles_apart : (limit : ℕ) {v₁ v₂ : RunNumbers} {e₁ e₂ : List ℕ} → Unsealed Sealed (listed_run_cycles (length m₁) limit levels given m₁)
        → CyclesCall registers cycles limit lines m₁ v₁ e₁ → CyclesCall registers cycles limit lines m₂ v₂ e₂
        → (v₁ ≡ v₂) × Kept Sealed (stores (run_cycles (length m₁) limit levels given) m₁) m₁ m₂ e₁ e₂

-- ==== All of it, on any numbers. A lent memory holds bytes (`Bytes`).

pub record Correct : Type 1 where
  pub demand_1 : (registers cycles lines : ℕ) (m : List ℕ) → Bytes m → Answered registers cycles lines m
  pub demand_2 : (registers cycles lines : ℕ) (m : List ℕ) → Bytes m → Equal registers cycles lines m
  pub one_result : (registers cycles lines : ℕ) (m : List ℕ) → OneResult registers cycles lines m
  pub demand_3 : (registers cycles lines : ℕ) (Sealed : ℕ → Type 0) (m₁ m₂ : List ℕ) → Differ Sealed m₁ m₂ → Apart registers cycles lines Sealed m₁ m₂
