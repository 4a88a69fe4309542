-- The interrupt lines (P6): when a line is served, what its service leaves, and the way back. What is said of every step stands in the files
-- beside this one: the answers, the reads and stores, the ranges, demand 3, a run in two parts.
use Rattle.std.specs.Prelude.{ℕ, zero, suc, ◌+◌, ◌≤◌, ◌≡◌, Bool, not, cond, ◌&&◌, List, [], ◌∷◌, ltb, get_or, set, length, Option, Some, None}
use Rattle.instruction.specs.declared.Entry.{Entry}
use Rattle.std.proofs.Math.Path.{refl, ap, sym}
use Rattle.std.proofs.Common.{◌∙◌, arith, le-ltb, length-set, get_or-set_same, get_or-set_other}
use Rattle.std.proofs.Math.Bool.{true, false}
use Rattle.registers.specs.declared.Registers.{Registers}
use Rattle.registers.specs.StatusByte.{served_byte}
use Rattle.registers.specs.Theorems.RoundTrip.{pulled_pushed}
use Rattle.registers.specs.State.{set_s, set_pc, set_status, set_i, flags, up, down}
use Rattle.instruction.specs.declared.Instruction.TheVariants.{RTI}
use Rattle.instruction.specs.declared.AddressingMode.{AddressingMode}
use Rattle.instruction.specs.Opcodes.{decoded}
use Rattle.manual.specs.declared.Lines.{Lines}
use Rattle.manual.specs.declared.Machine.{Machine}
use Rattle.manual.specs.declared.Stepped.{Stepped}
use Rattle.manual.specs.declared.Reason.{Reason}
use Rattle.manual.specs.declared.Reason.TheVariants.{NoCycleRoom}
use Rattle.manual.specs.Micro.{Micro, done, exec, reads, Gives}
use Rattle.manual.specs.Words.{low_byte, page, joined}
use Rattle.manual.specs.Outcomes.{leaves, machine_of, is_made, refused}
use Rattle.manual.specs.Stack.{push, pull, push_address, pull_address}
use Rattle.manual.specs.Interrupts.{enter, served, idle, falls, calls, due}
use Rattle.manual.specs.Instructions.{perform}
use Rattle.manual.specs.Stepping.{highest_count, act, attend, step_full}
use Rattle.manual.specs.Lemmas.Programs.{exec_bind}
use Rattle.manual.proofs.Lemmas.StepLaws.{second_not, due_none, step_late, step_serves, step_undefined, step_defined}
use Rattle.manual.proofs.Theorems.Answers.{Served, Way, late, serves, undefined, ready, way}
use Rattle.manual.proofs.Theorems.RunAnswers.{Leads}
use Rattle.manual.proofs.Theorems.Reads.{step_full_reads}
use Rattle.registers.specs.InRange.{InRange}

-- ---- the last level of NMI

level : Stepped × List ℕ → Bool
level w = w.0.machine.nmi

counted : Stepped × List ℕ → Bool
counted w = is_made w.0.reason

by_way : (lines : Lines) (s : Machine) (m : List ℕ) → Way lines s m → counted (exec (step_full lines s) m) ≡ true
    → level (exec (step_full lines s) m) ≡ lines.nmi
unfolding level counted
by_way lines s m (late h) e =
    let z : false ≡ true = rw (step_late lines s m h) at e in let y : ◌≡◌ {A = ℕ} 0 1 = cc in absurd (omega arith)
by_way lines s m (serves h) e = ap level (step_serves lines s m h.1.0 h.0 h.1.1 refl)
by_way lines s m (undefined h) e =
    let z : false ≡ true = rw (step_undefined lines s m h.0 h.1 h.2) at e in let y : ◌≡◌ {A = ℕ} 0 1 = cc in absurd (omega arith)
by_way lines s m (ready h) e = ap level (step_defined lines s m h.2.0 h.0 h.1 h.2.1 refl)

-- A step that is made records the present level; a refused one leaves the machine as it was (`unchanged` of Answers).
pub recorded : (lines : Lines) (s : Machine) (m : List ℕ) {q : Stepped} {m' : List ℕ} → Gives (step_full lines s) m q m'
    → is_made q.reason ≡ true → q.machine.nmi ≡ lines.nmi
unfolding level counted
recorded lines s m g h = sym (ap level g) ∙ by_way lines s m (way lines s m) (ap counted g ∙ h)

-- no level is high and low
pub high_and_low : (high : Bool) → (high && not high) ≡ false
high_and_low true = refl
high_and_low false = refl

-- so do the steps of a run
pub led_level : (k : ℕ) (lines : Lines) (s : Machine) (m : List ℕ) (s' : Machine) (m' : List ℕ) → Leads (suc k) lines s m s' m'
    → s'.nmi ≡ lines.nmi
led_level zero lines s m s' m' h = ap (λ (q : Machine). q.nmi) (sym h.4.0) ∙ recorded lines s m h.2 (ap is_made h.3)
led_level (suc k) lines s m s' m' h = led_level k lines h.0.machine h.1 s' m' h.4

-- NMI is served at most once in a run, and only by its first step: if it falls, no step was made before.
pub one_nmi : (k : ℕ) (lines : Lines) (s : Machine) (m : List ℕ) (s' : Machine) (m' : List ℕ) → Leads k lines s m s' m'
    → falls lines s' ≡ true → k ≡ 0
one_nmi zero lines s m s' m' h f = refl
one_nmi (suc k) lines s m s' m' h f =
    let z : false ≡ true = sym (high_and_low lines.nmi) ∙ rw (led_level k lines s m s' m' h) at f in
    let y : ◌≡◌ {A = ℕ} 0 1 = cc in absurd (omega arith)

-- ---- if no line is served

-- the opcode's share of a step: what a step was before there were lines, but for the level that it records
abbrev pub opcode_step : Lines → Machine → Micro Stepped
opcode_step lines s = cond (ltb highest_count s.cycles) (done (refused NoCycleRoom s)) (attend None lines s)

quiet_step : (lines : Lines) (s : Machine) → due lines s ≡ None → step_full lines s ≡ opcode_step lines s
unfolding step_full
quiet_step lines s e = rw e

-- With idle lines every step is so, whatever I is.
pub idle_step : (s : Machine) → step_full idle s ≡ opcode_step idle s
idle_step s = quiet_step idle s (due_none idle s (second_not s.nmi false refl) refl)

-- And with IRQ low and I set, if NMI does not fall.
pub masked_step : (lines : Lines) (s : Machine) → falls lines s ≡ false → s.registers.status.disable ≡ true
    → step_full lines s ≡ opcode_step lines s
masked_step lines s f i = quiet_step lines s (due_none lines s f (second_not (not lines.irq) _ (ap not i)))

-- all but the level
abbrev pub unlevelled : Stepped × List ℕ → Reason × ℕ × Registers × ℕ × List ℕ
unlevelled w = (w.0.reason, w.0.first, w.0.machine.registers, w.0.machine.cycles, w.1)

module _ (lines₁ lines₂ : Lines) (r : Registers) (cycles : ℕ) (nmi₁ nmi₂ : Bool) (m : List ℕ) where
  abbrev s₁ : Machine
  s₁ = machine_of r cycles nmi₁

  abbrev s₂ : Machine
  s₂ = machine_of r cycles nmi₂

  act_apart : (d : Option Entry) → unlevelled (exec (act d lines₁ s₁) m) ≡ unlevelled (exec (act d lines₂ s₂) m)
  unfolding act
  act_apart (Some e) =
      ap unlevelled (exec_bind (perform e.instruction e.mode r) _ m) ∙ sym (ap unlevelled (exec_bind (perform e.instruction e.mode r) _ m))
  act_apart None = refl

  -- That part looks at no level, present or last: all else that it gives is the same with any.
  pub levels_apart : unlevelled (exec (opcode_step lines₁ s₁) m) ≡ unlevelled (exec (opcode_step lines₂ s₂) m)
  unfolding attend
  levels_apart = by_room (ltb highest_count cycles)
    where
      by_room : (t : Bool) → unlevelled (exec (cond t (done (refused NoCycleRoom s₁)) (attend None lines₁ s₁)) m)
          ≡ unlevelled (exec (cond t (done (refused NoCycleRoom s₂)) (attend None lines₂ s₂)) m)
      by_room true = refl
      by_room false = act_apart (decoded (get_or m r.counter 0))

-- ---- if one is

module _ (vector : ℕ) (r : Registers) (m : List ℕ) where
  -- the registers and the memory after a service
  abbrev pub within : Registers
  within = (exec (served vector r) m).0

  abbrev pub pushed : List ℕ
  pushed = (exec (served vector r) m).1

  -- I is set, and the other flags stay, D too.
  pub served_flags : within.status ≡ set_i true r.status
  unfolding served enter push push_address set_pc set_s set_status flags
  served_flags = refl

  pub served_masks : within.status.disable ≡ true
  unfolding served enter push push_address set_pc set_s set_status set_i flags
  served_masks = refl

  -- RTI goes back to the instruction that was not yet begun, with the old flags and the old S: the registers are what they were.
  module _ (full : length m ≡ 65536) (range : InRange r) where
    abbrev S : ℕ
    S = r.stack.0

    back₁ : up (down S) ≡ S
    back₁ = omega (arith, range.stack)

    back₂ : up (down (down S)) ≡ down S
    back₂ = omega (arith, range.stack)

    back₃ : up (down (down (down S))) ≡ down (down S)
    back₃ = omega (arith, range.stack)

    -- the memory after each push
    abbrev m₁ : List ℕ
    m₁ = set m (joined 1 S) (page r.counter)

    abbrev m₂ : List ℕ
    m₂ = set m₁ (joined 1 (down S)) (low_byte r.counter)

    abbrev m₃ : List ℕ
    m₃ = set m₂ (joined 1 (down (down S))) (served_byte r.status)

    top : get_or m₃ (joined 1 (down (down S))) 0 ≡ served_byte r.status
    top = get_or-set_same m₂ (joined 1 (down (down S))) _ 0 (simp length-set (omega (arith, full)))

    middle : get_or m₃ (joined 1 (down S)) 0 ≡ low_byte r.counter
    middle =
        get_or-set_other m₂ (joined 1 (down (down S))) (joined 1 (down S)) _ 0 (λ e. omega (arith, range.stack))
        ∙ get_or-set_same m₁ (joined 1 (down S)) _ 0 (simp length-set (omega (arith, full)))

    bottom : get_or m₃ (joined 1 S) 0 ≡ page r.counter
    bottom =
        get_or-set_other m₂ (joined 1 (down (down S))) (joined 1 S) _ 0 (λ e. omega (arith, range.stack))
        ∙ get_or-set_other m₁ (joined 1 (down S)) (joined 1 S) _ 0 (λ e. omega (arith, range.stack))
        ∙ get_or-set_same m (joined 1 S) _ 0 (omega (arith, full, range.stack))

    whole : joined (page r.counter) (low_byte r.counter) ≡ r.counter
    whole = omega arith

    pub served_returns : (mode : AddressingMode) → Gives (perform RTI mode within) pushed (leaves r 0) pushed
    unfolding served enter push push_address pull pull_address perform set_pc set_s set_status set_i flags
    served_returns mode = rw (back₃, back₂, back₁, top, middle, bottom, whole, pulled_pushed false r.status)

-- A held IRQ is served again only when I is clear: it does not call after a service.
pub held_irq : (lines : Lines) (s : Machine) (m : List ℕ) → Served lines s → calls lines (exec (step_full lines s) m).0.machine ≡ false
held_irq lines s m h =
    rw (step_serves lines s m h.1.0 h.0 h.1.1 refl)
    (second_not (not lines.irq) _ (ap not (served_masks h.1.0 s.registers m)))

-- A step that serves a line reads the two bytes of its vector, in order, and nothing else; it has no first address, and takes 7 cycles.
pub served_reads : (lines : Lines) (s : Machine) (m : List ℕ) (vector : ℕ) → s.cycles ≤ highest_count → due lines s ≡ Some vector
    → reads (step_full lines s) m ≡ vector ∷ (vector + 1) ∷ []
served_reads lines s m vector h e = step_full_reads lines s m ∙ rw (le-ltb _ _ h, e)

pub served_first : (lines : Lines) (s : Machine) (m : List ℕ) → Served lines s → (exec (step_full lines s) m).0.first ≡ 0
served_first lines s m h = ap (λ (w : Stepped × List ℕ). w.0.first) (step_serves lines s m h.1.0 h.0 h.1.1 refl)

pub served_cycles : (lines : Lines) (s : Machine) (m : List ℕ) → Served lines s → (exec (step_full lines s) m).0.machine.cycles ≡ s.cycles + 7
served_cycles lines s m h = ap (λ (w : Stepped × List ℕ). w.0.machine.cycles) (step_serves lines s m h.1.0 h.0 h.1.1 refl)
