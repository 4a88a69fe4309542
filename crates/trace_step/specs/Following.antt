-- A step that counts only if it leads to a given state.
use Rattle.std.specs.Prelude.{ℕ, Bool, true, false, cond, List, eqb, length}
use Rattle.registers.specs.declared.Registers.{Registers}
use Rattle.registers.specs.StatusByte.{bit, pushed_byte}
use Rattle.manual.specs.declared.Machine.{Machine}
use Rattle.manual.specs.declared.Stepped.{Stepped}
use Rattle.manual.specs.declared.Reason.TheVariants.{Made}
use Rattle.manual.specs.Micro.{exec, Gives}
use Rattle.manual.specs.Outcomes.{is_made, stepped}
use Rattle.manual.specs.Interrupts.{idle}
use Rattle.manual.specs.Stepping.{step}

unfoldable pub same_registers : Registers → Registers → Bool
same_registers r q =
    cond (eqb r.counter q.counter)
    (cond (eqb r.accumulator q.accumulator)
    (cond (eqb r.x q.x)
    (cond (eqb r.y q.y)
    (cond (eqb r.stack.0 q.stack.0) (eqb (pushed_byte r.status) (pushed_byte q.status)) false)
    false)
    false)
    false)
    false

unfoldable pub same_machine : Machine → Machine → Bool
same_machine s t =
    cond (eqb s.cycles t.cycles) (cond (eqb (bit s.nmi) (bit t.nmi)) (same_registers s.registers t.registers) false) false

unfoldable pub leads_to : Stepped → Machine → Bool
leads_to q next = cond (is_made q.reason) (same_machine q.machine next) false

-- whether the step leads to the state, and the memory: after the step if it does, otherwise as it was
abbrev pub chosen : Bool → List ℕ → List ℕ → Bool × List ℕ
chosen true after before = (true, after)
chosen false after before = (false, before)

unfoldable pub followed : Machine → Machine → List ℕ → Bool × List ℕ
followed s next m = chosen (leads_to (exec (step (length m) idle s) m).0 next) (exec (step (length m) idle s) m).1 m

-- What that means: a step of the definition, with idle lines, is made from s and m and leaves t and m'.
abbrev pub OneStep : Machine → List ℕ → Machine → List ℕ → Type 0
OneStep s m t m' = (first : ℕ) × Gives (step (length m) idle s) m (stepped Made first t) m'
