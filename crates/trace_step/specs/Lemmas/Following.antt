-- What following a state means: a state follows exactly if one step of the definition is made and leads to it, and otherwise the memory is
-- as it was.
use Rattle.std.specs.Prelude.{ℕ, ◌≡◌, refl, Bool, true, false, cond, List, length}
use Rattle.std.proofs.Common.{ap, sym, ◌∙◌, arith, eqb-true, eq-eqb}
use Rattle.registers.specs.declared.Registers.{Registers}
use Rattle.registers.specs.State.{registers_of}
use Rattle.registers.specs.StatusByte.{bit, pushed_byte, pulled_status}
use Rattle.registers.specs.Theorems.RoundTrip.{pulled_pushed}
use Rattle.manual.specs.declared.Machine.{Machine}
use Rattle.manual.specs.declared.Stepped.{Stepped}
use Rattle.manual.specs.declared.Reason.{Reason}
use Rattle.manual.specs.declared.Reason.TheVariants.{Made, MemoryNotFull, NoCycleRoom, NotAnOpcode, BoundTooHigh}
use Rattle.manual.specs.Micro.{exec}
use Rattle.manual.specs.Outcomes.{machine_of, is_made, stepped}
use Rattle.manual.specs.Interrupts.{idle}
use Rattle.manual.specs.Stepping.{step}
use Rattle.trace_step.specs.Following.{same_registers, same_machine, leads_to, chosen, followed, OneStep}
use Rattle.trace_step.specs.Lemmas.Places.{follow_made}

untrue : {A : Type 0} → false ≡ true → A
untrue e = let z : ◌≡◌ {A = ℕ} 0 1 = cc in absurd (omega arith)

both : (t u : Bool) → cond t u false ≡ true → (t ≡ true) × (u ≡ true)
both true u e = (refl, e)
both false u e = untrue e

-- registers from their numbers
rebuilt : (r : Registers)
    → registers_of r.accumulator r.x r.y r.stack.0 r.counter (pulled_status (pushed_byte r.status)) ≡ r
rebuilt r = rw (pulled_pushed true r.status)

same_registers_lem : (r q : Registers) → same_registers r q ≡ true → r ≡ q
unfolding same_registers
same_registers_lem r q e =
    let a = both _ _ e in
    let b = both _ _ a.1 in
    let c = both _ _ b.1 in
    let d = both _ _ c.1 in
    let f = both _ _ d.1 in
    sym (rebuilt r)
    ∙ rw (
      eqb-true r.counter q.counter a.0,
      eqb-true r.accumulator q.accumulator b.0,
      eqb-true r.x q.x c.0,
      eqb-true r.y q.y d.0,
      eqb-true r.stack.0 q.stack.0 f.0,
      eqb-true (pushed_byte r.status) (pushed_byte q.status) f.1,
    )
    (rebuilt q)

one_level : (a b : Bool) → bit a ≡ bit b → a ≡ b
one_level true true e = refl
one_level false false e = refl
one_level true false e = absurd (omega arith)
one_level false true e = absurd (omega arith)

-- The test holds only of one and the same machine.
pub same_machine_lem : (s t : Machine) → same_machine s t ≡ true → s ≡ t
unfolding same_machine
same_machine_lem s t e =
    let a = both _ _ e in
    let b = both _ _ a.1 in
    ap (λ (r : Registers). machine_of r s.cycles s.nmi) (same_registers_lem s.registers t.registers b.1)
    ∙ ap (λ (n : ℕ). machine_of t.registers n s.nmi) (eqb-true s.cycles t.cycles a.0)
    ∙ ap (λ (l : Bool). machine_of t.registers t.cycles l) (one_level s.nmi t.nmi (eqb-true (bit s.nmi) (bit t.nmi) b.0))

is_made_lem : (r : Reason) → is_made r ≡ true → r ≡ Made
is_made_lem Made e = refl
is_made_lem MemoryNotFull e = untrue e
is_made_lem NoCycleRoom e = untrue e
is_made_lem NotAnOpcode e = untrue e
is_made_lem BoundTooHigh e = untrue e

chosen_true : (t : Bool) (a b e : List ℕ) → chosen t a b ≡ (true, e) → (t ≡ true) × (a ≡ e)
chosen_true true a b e h = (refl, ap (λ (w : Bool × List ℕ). w.1) h)
chosen_true false a b e h = untrue (ap (λ (w : Bool × List ℕ). w.0) h)

leads : (q : Stepped) (next : Machine) → leads_to q next ≡ true → q ≡ stepped Made q.first next
unfolding leads_to
leads q next h =
    let b = both _ _ h in
    ap (λ (r : Reason). stepped r q.first q.machine) (is_made_lem q.reason b.0)
    ∙ ap (λ (s : Machine). stepped Made q.first s) (same_machine_lem q.machine next b.1)

-- A state follows only if the definition's step is made and leads to it; the memory is then the step's.
pub follows : (s next : Machine) (m m' : List ℕ) → followed s next m ≡ (true, m') → OneStep s m next m'
unfolding followed
follows s next m m' h =
    let w = exec (step (length m) idle s) m in
    let y = chosen_true (leads_to w.0 next) w.1 m m' h in (
      w.0.first,
      ap (λ (q : Stepped). (q, w.1)) (leads w.0 next y.0) ∙ ap (λ (l : List ℕ). (stepped Made w.0.first next, l)) y.1,
    )

-- and if it does, it follows
pub itself : (s : Machine) → same_machine s s ≡ true
unfolding same_machine same_registers
itself s =
    rw (
      eq-eqb s.cycles s.cycles refl,
      eq-eqb (bit s.nmi) (bit s.nmi) refl,
      eq-eqb s.registers.counter s.registers.counter refl,
      eq-eqb s.registers.accumulator s.registers.accumulator refl,
      eq-eqb s.registers.x s.registers.x refl,
      eq-eqb s.registers.y s.registers.y refl,
      eq-eqb s.registers.stack.0 s.registers.stack.0 refl,
      eq-eqb (pushed_byte s.registers.status) (pushed_byte s.registers.status) refl,
    )

made : (first : ℕ) (next : Machine) → leads_to (stepped Made first next) next ≡ true
unfolding leads_to
made first next = itself next

pub followed_by : (s next : Machine) (m : List ℕ) {m' : List ℕ} → OneStep s m next m' → followed s next m ≡ (true, m')
followed_by s next m h = sym (follow_made s next m h.1 (made h.0 next))

-- If it does not follow the memory is as it was.
chosen_false : (t : Bool) (a b e : List ℕ) → chosen t a b ≡ (false, e) → e ≡ b
chosen_false true a b e h = untrue (sym (ap (λ (w : Bool × List ℕ). w.0) h))
chosen_false false a b e h = sym (ap (λ (w : Bool × List ℕ). w.1) h)

pub not_followed : (s next : Machine) (m m' : List ℕ) → followed s next m ≡ (false, m') → m' ≡ m
unfolding followed
not_followed s next m m' h =
    let w = exec (step (length m) idle s) m in
    chosen_false (leads_to w.0 next) w.1 m m' h
