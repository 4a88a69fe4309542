-- Laws of Travelling.antt.
use Rattle.std.specs.Prelude.{◌≡◌, ℕ, zero, suc, ◌+◌, Bool, true, false, cond, List, refl}
use Rattle.std.proofs.Common.{ap, sym, ◌∙◌}
use Rattle.registers.specs.declared.Registers.{Registers}
use Rattle.manual.specs.declared.Lines.{Lines}
use Rattle.manual.specs.declared.Machine.{Machine}
use Rattle.manual.specs.declared.Stepped.{Stepped}
use Rattle.manual.specs.declared.Ended.{Ended}
use Rattle.manual.specs.declared.Reason.{Reason}
use Rattle.manual.specs.declared.Reason.TheVariants.{Made, MemoryNotFull, NoCycleRoom, NotAnOpcode, BoundTooHigh}
use Rattle.manual.specs.Micro.{done, exec, Gives}
use Rattle.manual.specs.Outcomes.{machine_of, is_made, stepped, ended}
use Rattle.manual.specs.Stepping.{run_while, step_full, run_full}
use Rattle.manual.specs.Lemmas.Programs.{exec_then, exec_bind}
use Rattle.cpu.specs.declared.Travelled.{Travelled}
use Rattle.cpu.specs.Inner.Travelling.{travelled, travelling}

-- ---- a step before the bound

pub travel_end : (k first : ℕ) (lines : Lines) (s : Machine) (m : List ℕ) → Gives (travelling 0 k first lines s) m (travelled first (ended Made k s)) m
unfolding travelling
travel_end k first lines s m = refl

module _ (lines : Lines) (s : Machine) (m : List ℕ) (q : Stepped) (m' : List ℕ) (g : Gives (step_full lines s) m q m') where
  pub travel_made : (n k first : ℕ) → is_made q.reason ≡ true
      → exec (travelling (suc n) k first lines s) m ≡ exec (travelling n (k + 1) q.first lines q.machine) m'
  unfolding travelling
  travel_made n k first h = exec_then (step_full lines s) _ m g ∙ rw h

  pub travel_halts : (n k first : ℕ) → is_made q.reason ≡ false
      → Gives (travelling (suc n) k first lines s) m (travelled q.first (ended q.reason k q.machine)) m'
  unfolding travelling
  travel_halts n k first h = exec_then (step_full lines s) _ m g ∙ rw h

-- the same numbers
pub travel_same : {n n' k k' c c' : ℕ} (first : ℕ) (lines : Lines) (r : Registers) (nmi : Bool) (m : List ℕ) → n ≡ n' → k ≡ k' → c ≡ c'
    → exec (travelling n k first lines (machine_of r c nmi)) m ≡ exec (travelling n' k' first lines (machine_of r c' nmi)) m
travel_same {n} {n'} {k} {k'} {c} {c'} first lines r nmi m e f g =
    ap (λ (x : ℕ). exec (travelling x k first lines (machine_of r c nmi)) m) e
    ∙ ap (λ (x : ℕ). exec (travelling n' x first lines (machine_of r c nmi)) m) f
    ∙ ap (λ (x : ℕ). exec (travelling n' k' first lines (machine_of r x nmi)) m) g

-- the first address of a step does not matter if another one follows
pub travel_first : (n k first : ℕ) (lines : Lines) (s : Machine) → travelling (suc n) k first lines s ≡ travelling (suc n) k 0 lines s
unfolding travelling
travel_first n k first lines s = refl

-- ---- a run and a step by it

run_in : Travelled × List ℕ → Ended × List ℕ
run_in w = (w.0.ended, w.1)

same_run : (n k first : ℕ) (lines : Lines) (s : Machine) (m : List ℕ)
    → run_in (exec (travelling n k first lines s) m) ≡ exec (run_full n k lines s) m
unfolding travelling run_full run_while run_in
same_run zero k first lines s m = refl
same_run (suc n) k first lines s m =
    let w = exec (step_full lines s) m in
    ap run_in (exec_bind (step_full lines s) _ m)
    ∙ go (is_made w.0.reason) w.0 w.1 (same_run n (k + 1) w.0.first lines w.0.machine w.1)
    ∙ sym (exec_bind (step_full lines s) _ m)
  where
    go : (t : Bool) (q : Stepped) (e : List ℕ)
        → run_in (exec (travelling n (k + 1) q.first lines q.machine) e) ≡ exec (run_full n (k + 1) lines q.machine) e
        → run_in (exec (cond t (travelling n (k + 1) q.first lines q.machine) (done (travelled q.first (ended q.reason k q.machine)))) e)
        ≡ exec (cond t (run_full n (k + 1) lines q.machine) (done (ended q.reason k q.machine))) e
    go true q e h = h
    go false q e h = refl

pub travel_run : (n k first : ℕ) (lines : Lines) (s : Machine) (m : List ℕ) {w : Travelled} {m' : List ℕ}
    → Gives (travelling n k first lines s) m w m' → Gives (run_full n k lines s) m w.ended m'
unfolding run_in
travel_run n k first lines s m g = sym (same_run n k first lines s m) ∙ ap run_in g

step_in : Travelled × List ℕ → Stepped × List ℕ
step_in w = (stepped w.0.ended.reason w.0.first w.0.ended.machine, w.1)

-- a step is a run with the bound 1
one_step_lem : (r : Reason) (first : ℕ) (lines : Lines) (s : Machine) (m : List ℕ)
    → step_in (exec (cond (is_made r) (travelling 0 1 first lines s) (done (travelled first (ended r 0 s)))) m) ≡ (stepped r first s, m)
unfolding travelling step_in
one_step_lem Made first lines s m = refl
one_step_lem MemoryNotFull first lines s m = refl
one_step_lem NoCycleRoom first lines s m = refl
one_step_lem NotAnOpcode first lines s m = refl
one_step_lem BoundTooHigh first lines s m = refl

pub travel_step : (first : ℕ) (lines : Lines) (s : Machine) (m : List ℕ) {w : Travelled} {m' : List ℕ}
    → Gives (travelling 1 0 first lines s) m w m'
    → Gives (step_full lines s) m (stepped w.ended.reason w.first w.ended.machine) m'
unfolding travelling step_in
travel_step first lines s m g =
    let p = exec (step_full lines s) m in
    sym (ap step_in (exec_bind (step_full lines s) _ m) ∙ one_step_lem p.0.reason p.0.first lines p.0.machine p.1) ∙ ap step_in g
