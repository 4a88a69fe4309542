-- The derived equality of machines, field by field, answers what same_machine does.
use Rattle.std.specs.Prelude.{◌≡◌, refl, Bool, true, false}
use Rattle.std.proofs.Common.{sym, subst, eqb-true, eq-eqb, nat_eq, arith, ℕ}
use mathlib.Core.Bool.{◌&&◌, beq}
use Rattle.registers.specs.declared.Registers.{Registers}
use Rattle.registers.specs.declared.Status.{Status}
use Rattle.registers.specs.State.{status_of, registers_of}
use Rattle.manual.specs.declared.Machine.{Machine}
use Rattle.manual.specs.Outcomes.{machine_of}
use Rattle.trace_step.specs.Following.{same_machine}
use Rattle.trace_step.specs.Lemmas.Following.{same_machine_lem, itself}

abbrev pub equal_status : Status → Status → Bool
equal_status p q =
    beq p.negative q.negative
    && (beq p.overflow q.overflow
    && (beq p.decimal q.decimal && (beq p.disable q.disable && (beq p.zero q.zero && beq p.carry q.carry))))

abbrev pub equal_registers : Registers → Registers → Bool
equal_registers r q =
    nat_eq r.accumulator q.accumulator
    && (nat_eq r.x q.x
    && (nat_eq r.y q.y && (nat_eq r.stack.0 q.stack.0 && (nat_eq r.counter q.counter && equal_status r.status q.status))))

abbrev pub equal : Machine → Machine → Bool
equal s t = equal_registers s.registers t.registers && (nat_eq s.cycles t.cycles && beq s.nmi t.nmi)

both : (t u : Bool) → (t && u) ≡ true → (t ≡ true) × (u ≡ true)
both true u e = (refl, e)
both false u e = let z : ◌≡◌ {A = ℕ} 0 1 = cc in absurd (omega arith)

beq_itself : (b : Bool) → beq b b ≡ true
beq_itself true = refl
beq_itself false = refl

beq_lem : (a b : Bool) → beq a b ≡ true → a ≡ b
beq_lem true true e = refl
beq_lem true false e = sym e
beq_lem false true e = e
beq_lem false false e = refl

equal_itself : (s : Machine) → equal s s ≡ true
equal_itself s =
    rw (
      eq-eqb s.registers.accumulator s.registers.accumulator refl,
      eq-eqb s.registers.x s.registers.x refl,
      eq-eqb s.registers.y s.registers.y refl,
      eq-eqb s.registers.stack.0 s.registers.stack.0 refl,
      eq-eqb s.registers.counter s.registers.counter refl,
      eq-eqb s.cycles s.cycles refl,
      beq_itself s.registers.status.negative,
      beq_itself s.registers.status.overflow,
      beq_itself s.registers.status.decimal,
      beq_itself s.registers.status.disable,
      beq_itself s.registers.status.zero,
      beq_itself s.registers.status.carry,
      beq_itself s.nmi,
    )

status_lem : (p q : Status) → equal_status p q ≡ true → p ≡ q
status_lem p q e =
    let a = both (beq p.negative q.negative) _ e in
    let b = both (beq p.overflow q.overflow) _ a.1 in
    let c = both (beq p.decimal q.decimal) _ b.1 in
    let d = both (beq p.disable q.disable) _ c.1 in
    let f = both (beq p.zero q.zero) (beq p.carry q.carry) d.1 in
    let built : status_of p.negative p.overflow p.decimal p.disable p.zero p.carry ≡ q =
    rw (
      beq_lem p.negative q.negative a.0,
      beq_lem p.overflow q.overflow b.0,
      beq_lem p.decimal q.decimal c.0,
      beq_lem p.disable q.disable d.0,
      beq_lem p.zero q.zero f.0,
      beq_lem p.carry q.carry f.1,
    )
    refl
    in
    built

equal_lem : (s t : Machine) → equal s t ≡ true → s ≡ t
equal_lem s t e =
    let r = s.registers in
    let q = t.registers in
    let w = both (equal_registers r q) _ e in
    let v = both (nat_eq s.cycles t.cycles) (beq s.nmi t.nmi) w.1 in
    let a = both (nat_eq r.accumulator q.accumulator) _ w.0 in
    let b = both (nat_eq r.x q.x) _ a.1 in
    let c = both (nat_eq r.y q.y) _ b.1 in
    let d = both (nat_eq r.stack.0 q.stack.0) _ c.1 in
    let f = both (nat_eq r.counter q.counter) (equal_status r.status q.status) d.1 in
    let built : machine_of (registers_of r.accumulator r.x r.y r.stack.0 r.counter r.status) s.cycles s.nmi ≡ t =
    rw (
      eqb-true r.accumulator q.accumulator a.0,
      eqb-true r.x q.x b.0,
      eqb-true r.y q.y c.0,
      eqb-true r.stack.0 q.stack.0 d.0,
      eqb-true r.counter q.counter f.0,
      status_lem r.status q.status f.1,
      eqb-true s.cycles t.cycles v.0,
      beq_lem s.nmi t.nmi v.1,
    )
    refl
    in
    built

agree : (t u : Bool) → (t ≡ true → u ≡ true) → (u ≡ true → t ≡ true) → t ≡ u
agree true u f g = sym (f refl)
agree false true f g = g refl
agree false false f g = refl

pub derived_lem : (s t : Machine) → equal s t ≡ same_machine s t
derived_lem s t =
    agree (equal s t) (same_machine s t)
    (λ e. subst (λ (w : Machine). same_machine s w ≡ true) (equal_lem s t e) (itself s))
    (λ e. subst (λ (w : Machine). equal s w ≡ true) (same_machine_lem s t e) (equal_itself s))
