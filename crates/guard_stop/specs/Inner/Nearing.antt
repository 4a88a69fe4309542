-- Some steps of a run to an address.
use Rattle.std.specs.Prelude.{ℕ, ◌-◌, ◌≤◌, ◌<◌, ◌≡◌, true, cond, List}
use Rattle.manual.specs.declared.Lines.{Lines}
use Rattle.manual.specs.declared.Machine.{Machine}
use Rattle.manual.specs.declared.Ended.{Ended}
use Rattle.manual.specs.Micro.{exec}
use Rattle.manual.specs.Outcomes.{is_made}
use Rattle.manual.specs.Stepping.{run_while}
use Rattle.guard_stop.specs.Stop.{elsewhere}

module _ (stop bound : ℕ) (lines : Lines) where
  -- what the run gives after k steps
  abbrev pub toward : ℕ → Machine → List ℕ → Ended × List ℕ
  toward k s m = exec (run_while (elsewhere stop) (bound - k) k lines s) m

  -- it goes on from what they leave, or they are its end
  pub record Nears (k : ℕ) (s : Machine) (m : List ℕ) (q : Ended) (e : List ℕ) : Type 0 where
    pub same : toward k s m ≡ cond (is_made q.reason) (toward q.steps q.machine e) (q, e)
    pub some : is_made q.reason ≡ true → (k < q.steps) × (q.steps ≤ bound)
