-- A run that is halted before a step that would touch a guarded address.
use Rattle.std.specs.Prelude.{ℕ, zero, suc, ◌+◌, Bool, cond, List, ◌==◌, Option, Some, None, Ok, Err, Result}
use Rattle.manual.specs.declared.Lines.{Lines}
use Rattle.manual.specs.declared.Machine.{Machine}
use Rattle.manual.specs.declared.Reason.{Reason}
use Rattle.manual.specs.declared.Reason.TheVariants.{Made, MemoryNotFull}
use Rattle.manual.specs.Micro.{exec}
use Rattle.manual.specs.Outcomes.{is_made, ended}
use Rattle.manual.specs.Stepping.{full_memory, step_full}
use Rattle.manual.specs.declared.Ended.{Ended}
use Rattle.guard.specs.declared.Halt.{Halt}
use Rattle.guard_maps.specs.declared.Touch.{Touch}
use Rattle.guard_maps.specs.Maps.{ahead_of}

-- what a guarded run answers: the run's own answer, or where it was halted
abbrev pub Guarded : Type 0
Guarded = Result Ended Halt

-- what the run gives, or what its next step would touch, with the steps made and the machine before that step
abbrev pub ran : Reason → ℕ → Machine → Guarded
ran reason k s = Ok (ended reason k s)

abbrev pub halted : Touch → ℕ → Machine → Guarded
halted t k s = Err (record { touch = t; steps = k; machine = s })

abbrev pub unless : {A : Type 0} → Option Touch → (Touch → A) → A → A
unless None stop go = go
unless (Some t) stop go = stop t

-- n more steps on a full memory, after k
unfoldable pub guarded_full : (ℕ → Bool) → (ℕ → Bool) → ℕ → ℕ → Lines → Machine → List ℕ → Guarded × List ℕ
guarded_full reads stores zero k lines s m = (ran Made k s, m)
guarded_full reads stores (suc n) k lines s m =
    let w = exec (step_full lines s) m in
    unless (ahead_of reads stores lines s m) (λ t. (halted t k s, m))
    (cond (is_made w.0.reason) (guarded_full reads stores n (k + 1) lines w.0.machine w.1) (ran w.0.reason k w.0.machine, w.1))

-- any number of steps on a memory of any length
unfoldable pub guarded : (ℕ → Bool) → (ℕ → Bool) → ℕ → ℕ → Lines → Machine → List ℕ → Guarded × List ℕ
guarded reads stores size bound lines s m = cond (size == full_memory) (guarded_full reads stores bound 0 lines s m) (ran MemoryNotFull 0 s, m)
