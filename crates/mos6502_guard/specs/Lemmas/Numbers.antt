-- The laws that the code's proofs cite.
use Rattle.std.specs.Prelude.{ℕ, ◌≡◌, refl, List}
use Rattle.std.proofs.Common.{ap, ◌∙◌}
use Rattle.manual.specs.declared.Ended.{Ended}
use Rattle.manual.specs.Micro.{Gives}
use Rattle.manual.specs.Lemmas.Programs.{then}
use Rattle.mos6502_numbers.specs.Machines.{machine_from, lines_from}
use Rattle.guard.specs.Guarded.{Guarded}
use Rattle.guard_stop.specs.Stop.{run_to}
use Rattle.mos6502_guard.specs.Guarding.{GuardNumbers, guard_numbers, on_numbers}
use Rattle.mos6502_guard.specs.Stopping.{stop_numbers, run_to_on_numbers}

-- the numbers of a guarded run's answer, with the memory that it leaves, are those of the definition's
pub both : (registers cycles : ℕ) {v : GuardNumbers} {w : Guarded} {m : List ℕ} {g : Guarded × List ℕ}
    → v ≡ guard_numbers registers cycles w → (w, m) ≡ g → (v, m) ≡ on_numbers registers cycles g
both registers cycles {v} {w} {m} e h = ap (λ (u : GuardNumbers). (u, m)) e ∙ ap (on_numbers registers cycles) h

-- and those of a run to an address
pub to_on_numbers : (size stop bound lines registers cycles : ℕ) (m : List ℕ) {q : Ended} {m' : List ℕ}
    → Gives (run_to size stop bound (lines_from lines) (machine_from registers cycles)) m q m'
    → Gives (run_to_on_numbers size stop bound lines registers cycles) m (stop_numbers stop registers cycles q) m'
unfolding run_to_on_numbers
to_on_numbers size stop bound lines registers cycles m g = then (run_to size stop bound (lines_from lines) (machine_from registers cycles)) _ m g refl
