-- What is shown of a run with idle lines, by the view: the entry of each step that is made. Of the states it is a trace (P10), of the steps a
-- timetable (P8).
use Rattle.std.specs.Prelude.{ℕ, zero, suc, ◌-◌, cond, List, [], ◌++◌, eqb, length}
use Rattle.manual.specs.declared.Machine.{Machine}
use Rattle.manual.specs.declared.Stepped.{Stepped}
use Rattle.manual.specs.Micro.{exec}
use Rattle.manual.specs.Outcomes.{is_made}
use Rattle.manual.specs.Interrupts.{idle}
use Rattle.manual.specs.Stepping.{full_memory, step_full}
use Rattle.listing.specs.Lines.{instruction_at}
use Rattle.trace_text.specs.declared.View.{View}
use Rattle.trace_text.specs.Entries.{entry_text}

-- the entry of a step from s on the memory m that answers q; a refused step has none
abbrev pub shown : View → List ℕ → Machine → Stepped → List ℕ
shown view m s q =
    cond (is_made q.reason)
    (entry_text view (instruction_at m s.registers.counter) (q.machine.cycles - s.cycles) q.first q.machine)
    []

-- the entries of at most n steps on a full memory: the first that is refused ends them
unfoldable pub full_trace : View → ℕ → Machine → List ℕ → List ℕ
full_trace view zero s m = []
full_trace view (suc n) s m =
    let w = exec (step_full idle s) m in
    shown view m s w.0 ++ cond (is_made w.0.reason) (full_trace view n w.0.machine w.1) []

-- on a memory of another length no step is made
unfoldable pub trace : View → ℕ → Machine → List ℕ → List ℕ
trace view n s m = cond (eqb (length m) full_memory) (full_trace view n s m) []
