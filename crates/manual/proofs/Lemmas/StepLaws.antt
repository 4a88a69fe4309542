-- What a step and a run give, by the tests that they make: the laws behind the answers, and those that the code's proofs cite.
use Rattle.std.specs.Prelude.{ℕ, zero, suc, ◌+◌, ◌≤◌, ◌<◌, ◌≡◌, Bool, true, false, ◌&&◌, List, get_or, Option, Some, None}
use Rattle.std.proofs.Math.Path.{refl}
use Rattle.std.proofs.Common.{◌∙◌, arith, lt-ltb, le-ltb, le-leb, eq-eqb, ne_eqb}
use Rattle.std.proofs.lemmas.Bool.{lt-leb}
use Rattle.registers.specs.declared.Registers.{Registers}
use Rattle.instruction.specs.declared.Entry.{Entry}
use Rattle.instruction.specs.Opcodes.{decoded}
use Rattle.manual.specs.declared.Lines.{Lines}
use Rattle.manual.specs.declared.Machine.{Machine}
use Rattle.manual.specs.declared.Effect.{Effect}
use Rattle.manual.specs.declared.Stepped.{Stepped}
use Rattle.manual.specs.declared.Reason.{Reason}
use Rattle.manual.specs.declared.Reason.TheVariants.{Made, MemoryNotFull, NoCycleRoom, NotAnOpcode, BoundTooHigh}
use Rattle.manual.specs.Micro.{exec, Gives}
use Rattle.manual.specs.Outcomes.{is_made, refused, ended}
use Rattle.manual.specs.Interrupts.{nmi_vector, irq_vector, serving_cycles, served, falls, calls, due}
use Rattle.manual.specs.Instructions.{perform}
use Rattle.manual.specs.Stepping.{full_memory, highest_count, highest_bound, made, act, attend, step_full, step, run_while, run_full, run, long_run}
use Rattle.manual.specs.Lemmas.Programs.{exec_then, then}

-- the byte at the counter
abbrev pub opcode_of : Machine → List ℕ → ℕ
opcode_of s m = get_or m s.registers.counter 0

-- ---- a step

pub step_short : (size : ℕ) (lines : Lines) (s : Machine) (m : List ℕ) → (size ≡ full_memory → ⊥)
    → Gives (step size lines s) m (refused MemoryNotFull s) m
unfolding step
step_short size lines s m f = simp (ne_eqb _ _ f)

pub step_whole : (size : ℕ) (lines : Lines) (s : Machine) → size ≡ full_memory → step size lines s ≡ step_full lines s
unfolding step
step_whole size lines s e = simp (eq-eqb _ _ e)

pub step_late : (lines : Lines) (s : Machine) (m : List ℕ) → highest_count < s.cycles → Gives (step_full lines s) m (refused NoCycleRoom s) m
unfolding step_full
step_late lines s m h = simp (lt-ltb _ _ h)

-- what is due
pub due_nmi : (lines : Lines) (s : Machine) → falls lines s ≡ true → due lines s ≡ Some nmi_vector
due_nmi lines s f = rw f

pub due_irq : (lines : Lines) (s : Machine) → falls lines s ≡ false → calls lines s ≡ true → due lines s ≡ Some irq_vector
due_irq lines s f c = rw (f, c)

pub due_none : (lines : Lines) (s : Machine) → falls lines s ≡ false → calls lines s ≡ false → due lines s ≡ None
due_none lines s f c = rw (f, c)

-- two tests, one after the other
pub both : (a b : Bool) → a ≡ true → b ≡ true → (a && b) ≡ true
both a b e f = rw (e, f)

pub first_not : (a b : Bool) → a ≡ false → (a && b) ≡ false
first_not a b e = rw e

pub second_not : (a b : Bool) → b ≡ false → (a && b) ≡ false
second_not true b e = e
second_not false b e = refl

-- if there is room, a step is what is due
pub step_attends : (lines : Lines) (s : Machine) (d : Option ℕ) → s.cycles ≤ highest_count → due lines s ≡ d → step_full lines s ≡ attend d lines s
unfolding step_full
step_attends lines s d h e = rw (le-ltb _ _ h, e)

attend_serves : (vector : ℕ) (lines : Lines) (s : Machine) (m : List ℕ) {r : Registers} {m' : List ℕ}
    → Gives (served vector s.registers) m r m' → Gives (attend (Some vector) lines s) m (made lines s 0 r serving_cycles) m'
unfolding attend
attend_serves vector lines s m g = then (served vector s.registers) _ m g refl

pub step_serves : (lines : Lines) (s : Machine) (m : List ℕ) (vector : ℕ) {r : Registers} {m' : List ℕ} → s.cycles ≤ highest_count
    → due lines s ≡ Some vector
    → Gives (served vector s.registers) m r m'
    → Gives (step_full lines s) m (made lines s 0 r serving_cycles) m'
step_serves lines s m vector h e g = rw (step_attends lines s (Some vector) h e) (attend_serves vector lines s m g)

act_undefined : (d : Option Entry) (lines : Lines) (s : Machine) (m : List ℕ) → d ≡ None → Gives (act d lines s) m (refused NotAnOpcode s) m
unfolding act
act_undefined d lines s m e = rw e

act_defined : (d : Option Entry) (lines : Lines) (s : Machine) (m : List ℕ) (e : Entry) {f : Effect} {m' : List ℕ} → d ≡ Some e
    → Gives (perform e.instruction e.mode s.registers) m f m'
    → Gives (act d lines s) m (made lines s f.first f.registers (e.cycles + f.extra)) m'
unfolding act
act_defined d lines s m e p g = rw p (then (perform e.instruction e.mode s.registers) _ m g refl)

attend_quiet : (lines : Lines) (s : Machine) (m : List ℕ) → exec (attend None lines s) m ≡ exec (act (decoded (opcode_of s m)) lines s) m
unfolding attend
attend_quiet lines s m = refl

pub step_undefined : (lines : Lines) (s : Machine) (m : List ℕ) → s.cycles ≤ highest_count → due lines s ≡ None
    → decoded (opcode_of s m) ≡ None
    → Gives (step_full lines s) m (refused NotAnOpcode s) m
step_undefined lines s m h q e =
    rw (step_attends lines s None h q) (attend_quiet lines s m ∙ act_undefined (decoded (opcode_of s m)) lines s m e)

pub step_defined : (lines : Lines) (s : Machine) (m : List ℕ) (e : Entry) {f : Effect} {m' : List ℕ} → s.cycles ≤ highest_count
    → due lines s ≡ None
    → decoded (opcode_of s m) ≡ Some e
    → Gives (perform e.instruction e.mode s.registers) m f m'
    → Gives (step_full lines s) m (made lines s f.first f.registers (e.cycles + f.extra)) m'
step_defined lines s m e h q p g =
    rw (step_attends lines s None h q) (attend_quiet lines s m ∙ act_defined (decoded (opcode_of s m)) lines s m e p g)

-- ---- a run

pub run_short : (size bound : ℕ) (lines : Lines) (s : Machine) (m : List ℕ) → (size ≡ full_memory → ⊥) → Gives (run size bound lines s) m (ended MemoryNotFull 0 s) m
unfolding run
run_short size bound lines s m f = simp (ne_eqb _ _ f)

pub run_long : (size bound : ℕ) (lines : Lines) (s : Machine) (m : List ℕ) → size ≡ full_memory → highest_bound < bound
    → Gives (run size bound lines s) m (ended BoundTooHigh 0 s) m
unfolding run
run_long size bound lines s m e h = simp (eq-eqb _ _ e, lt-leb _ _ h)

pub run_whole : (size bound : ℕ) (lines : Lines) (s : Machine) → size ≡ full_memory → bound ≤ highest_bound → run size bound lines s ≡ run_full bound 0 lines s
unfolding run
run_whole size bound lines s e h = simp (eq-eqb _ _ e, le-leb _ _ h)

pub long_short : (size bound : ℕ) (lines : Lines) (s : Machine) (m : List ℕ) → (size ≡ full_memory → ⊥) → Gives (long_run size bound lines s) m (ended MemoryNotFull 0 s) m
unfolding long_run
long_short size bound lines s m f = simp (ne_eqb _ _ f)

pub long_whole : (size bound : ℕ) (lines : Lines) (s : Machine) → size ≡ full_memory → long_run size bound lines s ≡ run_full bound 0 lines s
unfolding long_run
long_whole size bound lines s e = simp (eq-eqb _ _ e)

-- a refusal is no step made, and `Made` is no refusal
pub not_made : (r : Reason) → (r ≡ Made → ⊥) → is_made r ≡ false
not_made Made f = absurd (f refl)
not_made MemoryNotFull f = refl
not_made NoCycleRoom f = refl
not_made NotAnOpcode f = refl
not_made BoundTooHigh f = refl

pub was_made : (r : Reason) → is_made r ≡ true → r ≡ Made
was_made Made e = refl
was_made MemoryNotFull e = let z : ◌≡◌ {A = ℕ} 0 1 = cc in absurd (omega arith)
was_made NoCycleRoom e = let z : ◌≡◌ {A = ℕ} 0 1 = cc in absurd (omega arith)
was_made NotAnOpcode e = let z : ◌≡◌ {A = ℕ} 0 1 = cc in absurd (omega arith)
was_made BoundTooHigh e = let z : ◌≡◌ {A = ℕ} 0 1 = cc in absurd (omega arith)

pub was_refused : (r : Reason) → is_made r ≡ false → r ≡ Made → ⊥
was_refused r e p = let f : is_made Made ≡ false = rw p at e in let z : ◌≡◌ {A = ℕ} 0 1 = cc in omega arith

-- of a run with a test: over if the test fails, and otherwise a step more or its refusal
pub while_over : (goes : Machine → Bool) (n k : ℕ) (lines : Lines) (s : Machine) (m : List ℕ) → goes s ≡ false
    → Gives (run_while goes n k lines s) m (ended Made k s) m
unfolding run_while
while_over goes zero k lines s m h = refl
while_over goes (suc n) k lines s m h = rw h

module _ (goes : Machine → Bool) (lines : Lines) (s : Machine) (m : List ℕ) (q : Stepped) (m' : List ℕ) (g : Gives (step_full lines s) m q m')
    (t : goes s ≡ true) where
  pub while_more : (n k : ℕ) → q.reason ≡ Made → exec (run_while goes (suc n) k lines s) m ≡ exec (run_while goes n (k + 1) lines q.machine) m'
  unfolding run_while
  while_more n k h = rw t (exec_then (step_full lines s) _ m g ∙ rw h)

  pub while_stop : (n k : ℕ) → (q.reason ≡ Made → ⊥) → Gives (run_while goes (suc n) k lines s) m (ended q.reason k q.machine) m'
  unfolding run_while
  while_stop n k h = rw t (exec_then (step_full lines s) _ m g ∙ rw (not_made q.reason h))

-- of a run with none
pub run_end : (k : ℕ) (lines : Lines) (s : Machine) (m : List ℕ) → Gives (run_full 0 k lines s) m (ended Made k s) m
unfolding run_full run_while
run_end k lines s m = refl

module _ (lines : Lines) (s : Machine) (m : List ℕ) (q : Stepped) (m' : List ℕ) (g : Gives (step_full lines s) m q m') where
  pub run_more : (n k : ℕ) → q.reason ≡ Made → exec (run_full (suc n) k lines s) m ≡ exec (run_full n (k + 1) lines q.machine) m'
  unfolding run_full
  run_more n k h = while_more (λ s. true) lines s m q m' g refl n k h

  pub run_stop : (n k : ℕ) → (q.reason ≡ Made → ⊥) → Gives (run_full (suc n) k lines s) m (ended q.reason k q.machine) m'
  unfolding run_full
  run_stop n k h = while_stop (λ s. true) lines s m q m' g refl n k h
