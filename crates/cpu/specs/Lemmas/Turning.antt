-- Laws of Turning.antt.
use Rattle.std.specs.Prelude.{◌≡◌, ℕ, zero, suc, ◌+◌, ◌-◌, ◌/◌, ◌<◌, ◌≤◌, Bool, true, false, cond, ◌⊎◌, List, nat_lt, refl, Option, Some, None}
use Rattle.std.proofs.Common.{ap, ◌∙◌, inl, inr, arith, lt-ltb, le-ltb}
use Rattle.std.proofs.Math.Path.{sym}
use Rattle.std.proofs.Math.Decide.{dec_lt}
use Rattle.registers.specs.declared.Registers.{Registers}
use Rattle.manual.specs.declared.Lines.{Lines}
use Rattle.manual.specs.declared.Machine.{Machine}
use Rattle.manual.specs.declared.Ended.{Ended}
use Rattle.manual.specs.declared.Reason.TheVariants.{Made, NoCycleRoom}
use Rattle.manual.specs.Micro.{exec, Gives}
use Rattle.manual.specs.Outcomes.{machine_of, is_made, stepped, ended}
use Rattle.manual.specs.Interrupts.{served, due}
use Rattle.manual.specs.Stepping.{highest_count, step_full, run_full}
use Rattle.manual.specs.Lemmas.Programs.{exec_bind, then}
use Rattle.manual.proofs.Lemmas.StepLaws.{due_none, step_late, step_serves, step_undefined, step_defined}
use Rattle.manual.proofs.Theorems.Answers.{Way, late, serves, undefined, ready, way, not_quiet}
use Rattle.manual.proofs.Theorems.RunAnswers.{Leads, Ends, all_made_lem, no_cycle_room_lem, not_an_opcode_lem, run_ends}
use Rattle.manual.proofs.Theorems.Serving.{high_and_low, led_level}
use Rattle.manual.proofs.Theorems.Lunch.{added, full_lunch, full_stopped}
use Rattle.cpu.specs.declared.Travelled.{Travelled}
use Rattle.cpu.specs.Inner.Travelling.{travelled, travelling}
use Rattle.cpu.specs.Lemmas.Travelling.{travel_end, travel_made, travel_halts, travel_run, travel_step}
use Rattle.cpu.specs.Inner.Turning.{raised, levelled, recording, stretch, turning, Calm, reach, Fits, least, fitting, serving, settled, going}

-- ---- a turn by what is due

turn_gives : (n : ℕ) (lines : Lines) (s : Machine) (m : List ℕ) (j : ℕ) {w : Travelled} {m' : List ℕ} → stretch (due lines s) n ≡ j
    → Gives (travelling j 0 0 lines s) m w m'
    → Gives (turning n lines s) m (recording lines w) m'
unfolding turning
turn_gives n lines s m j e g = rw e (then (travelling j 0 0 lines s) _ m g refl)

-- if a line is due
one_of : (d : Option ℕ) (n vector : ℕ) → d ≡ Some vector → stretch d n ≡ 1
one_of (Some v) n vector e = refl
one_of None n vector e = absurd (not_quiet None vector refl e)

-- a line that is due is served
pub turn_serves : (n : ℕ) (lines : Lines) (s : Machine) (m : List ℕ) (vector : ℕ) → due lines s ≡ Some vector → s.cycles ≤ highest_count
    → exec (turning n lines s) m ≡ exec (serving vector s.registers s.cycles lines.nmi) m
unfolding serving
turn_serves n lines s m vector e h =
    let w = exec (served vector s.registers) m in
    turn_gives n lines s m 1 (one_of (due lines s) n vector e)
    (travel_made lines s m _ w.1 (step_serves lines s m vector {r = w.0} h e refl) 0 0 0 refl ∙ travel_end 1 0 lines _ w.1)
    ∙ sym (exec_bind (served vector s.registers) _ m)

-- if there is no room, no step is made
stretch_some : (d : Option ℕ) (n : ℕ) → 0 < n → stretch d n ≡ suc (stretch d n - 1)
stretch_some (Some vector) n l = omega arith
stretch_some None n l = omega arith

pub turn_late : (n : ℕ) (lines : Lines) (s : Machine) (m : List ℕ) → 0 < n → highest_count < s.cycles
    → Gives (turning n lines s) m (travelled 0 (ended NoCycleRoom 0 (levelled lines.nmi s))) m
turn_late n lines s m l h =
    turn_gives n lines s m _ (stretch_some (due lines s) n l) (travel_halts lines s m _ m (step_late lines s m h) (stretch (due lines s) n - 1) 0 0 refl)

-- nothing is due with IRQ high and a level of NMI that stays
pub raised_quiet : (nmi : Bool) (r : Registers) (cycles : ℕ) → due (raised nmi) (machine_of r cycles nmi) ≡ None
raised_quiet nmi r cycles = due_none (raised nmi) (machine_of r cycles nmi) (high_and_low nmi) refl

level_of : Travelled × List ℕ → Bool
level_of w = w.0.ended.machine.nmi

-- if the last level is the present one it stays so
held : (n k first : ℕ) (lines : Lines) (s : Machine) (m : List ℕ) → s.nmi ≡ lines.nmi → level_of (exec (travelling n k first lines s) m) ≡ lines.nmi
unfolding level_of
held zero k first lines s m e = ap level_of (travel_end k first lines s m) ∙ e
held (suc n) k first lines s m e = by_way (λ next s₁ m₁ h. held n (k + 1) next lines s₁ m₁ h) (way lines s m)
  where
    by_way : ((next : ℕ) (s₁ : Machine) (m₁ : List ℕ) → s₁.nmi ≡ lines.nmi → level_of (exec (travelling n (k + 1) next lines s₁) m₁) ≡ lines.nmi)
        → Way lines s m → level_of (exec (travelling (suc n) k first lines s) m) ≡ lines.nmi
    by_way more (late h) = ap level_of (travel_halts lines s m _ m (step_late lines s m h) n k first refl) ∙ e
    by_way more (serves h) =
        ap level_of (travel_made lines s m _ _ (step_serves lines s m h.1.0 h.0 h.1.1 refl) n k first refl) ∙ more _ _ _ refl
    by_way more (undefined h) = ap level_of (travel_halts lines s m _ m (step_undefined lines s m h.0 h.1 h.2) n k first refl) ∙ e
    by_way more (ready h) =
        ap level_of (travel_made lines s m _ _ (step_defined lines s m h.2.0 h.0 h.1 h.2.1 refl) n k first refl) ∙ more _ _ _ refl

-- then a turn has nothing to record
abbrev recorded_in : Lines → Travelled × List ℕ → Travelled × List ℕ
recorded_in lines w = (recording lines w.0, w.1)

recorded_so : (lines : Lines) (w : Travelled × List ℕ) → level_of w ≡ lines.nmi → recorded_in lines w ≡ w
unfolding level_of
recorded_so lines w e =
    ap (λ (nmi : Bool). (travelled w.0.first (ended w.0.ended.reason w.0.ended.steps (levelled nmi w.0.ended.machine)), w.1)) (sym e)

was_high : (lines : Lines) → lines.irq ≡ true → lines ≡ raised lines.nmi
was_high lines e = ap (λ (irq : Bool). record { irq = irq; nmi = lines.nmi }) e

module _ (lines : Lines) (s : Machine) (m : List ℕ) (e : due lines s ≡ None) where
  abbrev nmi : Bool
  nmi = lines.nmi

  abbrev flat : Machine
  flat = levelled nmi s

  abbrev Same : ℕ → Type 0
  Same n = exec (turning n lines s) m ≡ exec (travelling n 0 0 (raised nmi) flat) m

  all_of : (n : ℕ) → stretch (due lines s) n ≡ n
  all_of n = rw e

  -- what follows the first step
  rest : (n first : ℕ) (s₁ : Machine) (m₁ : List ℕ) → Calm lines (suc n) → s₁.nmi ≡ nmi
      → recorded_in lines (exec (travelling n 1 first lines s₁) m₁) ≡ exec (travelling n 1 first (raised nmi) s₁) m₁
  rest n first s₁ m₁ (inl high) level =
      recorded_so lines (exec (travelling n 1 first lines s₁) m₁) (held n 1 first lines s₁ m₁ level)
      ∙ ap (λ (l : Lines). exec (travelling n 1 first l s₁) m₁) (was_high lines high)
  rest n first s₁ m₁ (inr one) level =
      let none : n ≡ 0 = omega arith in
      recorded_so lines (exec (travelling n 1 first lines s₁) m₁) (held n 1 first lines s₁ m₁ level)
      ∙ rw none (travel_end 1 first lines s₁ m₁ ∙ sym (travel_end 1 first (raised nmi) s₁ m₁))

  by_first : (n : ℕ) → Calm lines (suc n) → Way lines s m → Same (suc n)
  by_first n calm (late h) =
      turn_gives (suc n) lines s m (suc n) (all_of (suc n)) (travel_halts lines s m _ m (step_late lines s m h) n 0 0 refl)
      ∙ sym (travel_halts (raised nmi) flat m _ m (step_late (raised nmi) flat m h) n 0 0 refl)
  by_first n calm (serves h) = absurd (not_quiet (due lines s) h.1.0 e h.1.1)
  by_first n calm (undefined h) =
      turn_gives (suc n) lines s m (suc n) (all_of (suc n)) (travel_halts lines s m _ m (step_undefined lines s m h.0 h.1 h.2) n 0 0 refl)
      ∙ sym (travel_halts (raised nmi) flat m _ m (step_undefined (raised nmi) flat m h.0 (raised_quiet nmi s.registers s.cycles) h.2) n 0 0 refl)
  by_first n calm (ready h) =
      turn_gives (suc n) lines s m (suc n) (all_of (suc n)) (travel_made lines s m _ _ (step_defined lines s m h.2.0 h.0 e h.2.1 refl) n 0 0 refl)
      ∙ rest n _ _ _ calm refl
      ∙ sym (travel_made (raised nmi) flat m _ _ (step_defined (raised nmi) flat m h.2.0 h.0 (raised_quiet nmi s.registers s.cycles) h.2.1 refl) n 0 0 refl)

  -- if none is due, a turn is steps with IRQ high and NMI at the present level throughout
  pub turn_walks : (n : ℕ) → Calm lines n → exec (turning n lines s) m ≡ exec (travelling n 0 0 (raised nmi) flat) m
  turn_walks zero calm = turn_gives zero lines s m zero (all_of zero) (travel_end 0 0 lines s m) ∙ sym (travel_end 0 0 (raised nmi) flat m)
  turn_walks (suc n) calm = by_first n calm (way lines s m)

-- ---- a step and a run by turns

-- the machine that a run leaves: if it made a step it has the present level, and otherwise it is the one that was given
pub settles : (n : ℕ) (lines : Lines) (s : Machine) (m : List ℕ) {q : Ended} {m' : List ℕ} → Ends n lines s m q m'
    → cond (nat_lt 0 q.steps) (levelled lines.nmi q.machine) s ≡ q.machine
settles n lines s m end = by_end end
  where
    by_steps : (k : ℕ) (s' : Machine) (m' : List ℕ) → Leads k lines s m s' m' → cond (nat_lt 0 k) (levelled lines.nmi s') s ≡ s'
    by_steps zero s' m' led = led.0
    by_steps (suc k) s' m' led =
        rw (lt-ltb 0 (suc k) (omega arith)) (ap (λ (nmi : Bool). levelled nmi s') (sym (led_level k lines s m s' m' led)))

    by_end : {q : Ended} {m' : List ℕ} → Ends n lines s m q m' → cond (nat_lt 0 q.steps) (levelled lines.nmi q.machine) s ≡ q.machine
    by_end (all_made_lem {s'} {m'} led) = by_steps n s' m' led
    by_end (no_cycle_room_lem {k} {s'} {m'} l led r) = by_steps k s' m' led
    by_end (not_an_opcode_lem {k} {s'} {m'} l led r) = by_steps k s' m' led

module _ (n : ℕ) (lines : Lines) (s : Machine) (m : List ℕ) {r : Travelled} {m' : List ℕ} (g : Gives (turning n lines s) m r m') where
  abbrev size : ℕ
  size = stretch (due lines s) n

  abbrev w : Travelled × List ℕ
  w = exec (travelling size 0 0 lines s) m

  told : recorded_in lines w ≡ (r, m')
  unfolding turning
  told = sym (exec_bind (travelling size 0 0 lines s) _ m) ∙ g

  -- the steps that a turn makes are those of the definition
  pub turned : Gives (travelling size 0 0 lines s) m (travelled r.first (settled s r.ended)) m'
  turned =
      ap (λ (q : Machine). (travelled w.0.first (ended w.0.ended.reason w.0.ended.steps q), w.1))
      (sym (settles size lines s m (run_ends size lines s m {q = w.0.ended} {m' = w.1} (travel_run size 0 0 lines s m {w = w.0} {m' = w.1} refl))))
      ∙ ap (λ (v : Travelled × List ℕ). (travelled v.0.first (settled s v.0.ended), v.1)) told

pub one_step_lem : (d : Option ℕ) → stretch d 1 ≡ 1
one_step_lem (Some vector) = refl
one_step_lem None = refl

-- a turn of one is a step
pub turn_step : (lines : Lines) (s : Machine) (m : List ℕ) {r : Travelled} {m' : List ℕ} → Gives (turning 1 lines s) m r m'
    → Gives (step_full lines s) m (stepped r.ended.reason r.first (settled s r.ended).machine) m'
turn_step lines s m g = travel_step 0 lines s m (rw (one_step_lem (due lines s)) at (turned 1 lines s m g))

-- how far a turn goes
pub reach_calm : (lines : Lines) (n : ℕ) → Calm lines (reach lines.irq n)
reach_calm lines n = by_level lines.irq refl
  where
    by_level : (irq : Bool) → lines.irq ≡ irq → (lines.irq ≡ true) ⊎ (reach irq n ≡ 1)
    by_level true e = inl e
    by_level false e = inr refl

pub reach_some : (irq : Bool) (n : ℕ) → 0 < n → (0 < reach irq n) × (reach irq n ≤ n)
reach_some true n l = (l, omega arith)
reach_some false n l = (omega arith, omega arith)

least_some : (a b : ℕ) → (least a b ≤ a) × (least a b ≤ b) × (0 < a → 0 < b → 0 < least a b)
least_some a b = by_order (dec_lt a b)
  where
    by_order : Dec (a < b) → (least a b ≤ a) × (least a b ≤ b) × (0 < a → 0 < b → 0 < least a b)
    by_order (yes l) = rw (lt-ltb a b l) (omega arith, omega arith, λ p q. p)
    by_order (no f) = let l : b ≤ a = omega arith in rw (le-ltb a b l) (l, omega arith, λ p q. q)

pub one_fits : (cycles : ℕ) → Fits cycles 1
one_fits cycles = (omega arith, omega arith, λ l. omega arith)

pub fitting_fits : (n cycles : ℕ) → 0 < n → Fits cycles (fitting n cycles)
fitting_fits n cycles l =
    let room = (highest_count - cycles) / 7 + 1 in
    let outer = least_some n (least room 16777216) in
    let inner = least_some room 16777216 in (
      outer.2 l (inner.2 (omega arith) (omega arith)),
      omega (arith, outer.1, inner.1),
      λ h. omega (arith, h, outer.1, inner.0),
    )

pub fitting_most : (n cycles : ℕ) → fitting n cycles ≤ n
fitting_most n cycles = (least_some n _).0

pub going_fits : (lines : Lines) (cycles n : ℕ) → 0 < n → Fits cycles (going lines cycles n)
going_fits lines cycles n l = by_level lines.irq
  where
    by_level : (irq : Bool) → Fits cycles (reach irq (fitting n cycles))
    by_level true = fitting_fits n cycles l
    by_level false = one_fits cycles

pub going_most : (lines : Lines) (cycles n : ℕ) → 0 < n → going lines cycles n ≤ n
going_most lines cycles n l = omega (arith, (reach_some lines.irq (fitting n cycles) (fitting_fits n cycles l).0).1, fitting_most n cycles)

-- a turn of some of n steps
module _ (lines : Lines) (s : Machine) (n j : ℕ) (l : 0 < j) (u : j ≤ n) where
  abbrev pub far : ℕ
  far = stretch (due lines s) j

  -- it is some of them, and no more
  pub some : (d : Option ℕ) → (0 < stretch d j) × (stretch d j ≤ n)
  some (Some vector) = (omega arith, omega arith)
  some None = (l, u)

  module _ (m : List ℕ) {r : Travelled} {m' : List ℕ} (g : Gives (turning j lines s) m r m') where
    abbrev q : Ended
    q = settled s r.ended

    gone : Gives (run_full far 0 lines s) m q m'
    gone = travel_run far 0 0 lines s m (turned j lines s m g)

    -- it makes no more steps than are left
    pub turn_few : q.steps ≤ n
    turn_few = few (run_ends far lines s m gone)
      where
        few : {p : Ended} {e : List ℕ} → Ends far lines s m p e → p.steps ≤ n
        few (all_made_lem led) = (some (due lines s)).1
        few (no_cycle_room_lem l led r) = omega (arith, (some (due lines s)).1)
        few (not_an_opcode_lem l led r) = omega (arith, (some (due lines s)).1)

    -- if it was stopped, so is the run
    pub turn_stops : is_made q.reason ≡ false → Gives (run_full n 0 lines s) m q m'
    turn_stops f =
        let e : far + (n - far) ≡ n = omega (arith, (some (due lines s)).1) in
        rw e at (full_stopped far (n - far) lines s m gone (λ h. let z : true ≡ false = ap is_made (sym h) ∙ f in let y : ◌≡◌ {A = ℕ} 0 1 = cc in omega arith))

    steps_of : {p : Ended} {e : List ℕ} → Ends far lines s m p e → is_made p.reason ≡ true → (p.reason ≡ Made) × (p.steps ≡ far)
    steps_of (all_made_lem led) h = (refl, refl)
    steps_of (no_cycle_room_lem l led r) h = let z : ◌≡◌ {A = ℕ} 0 1 = cc in absurd (omega arith)
    steps_of (not_an_opcode_lem l led r) h = let z : ◌≡◌ {A = ℕ} 0 1 = cc in absurd (omega arith)

    -- if it was not, it has made a step, and the run goes on from the machine that it left
    pub turn_goes : is_made q.reason ≡ true
        → (0 < q.steps) × (exec (run_full n 0 lines s) m ≡ added q.steps (exec (run_full (n - q.steps) 0 lines q.machine) m'))
    turn_goes h =
        let made = steps_of (run_ends far lines s m gone) h in
        let e : far + (n - q.steps) ≡ n = omega (arith, made.1, (some (due lines s)).1) in
        (omega (arith, made.1, (some (due lines s)).0), rw e at (full_lunch far (n - q.steps) lines s m gone made.0))
