-- Each step of the loop is the next of the patrol.
use Rattle.std.specs.Prelude.{None}
use Rattle.std.proofs.Common.{◌≡◌, suc, ◌-◌, sym, refl, ◌∙◌, arith}
use Rattle.cpu.specs.Inner.Turning.{raised}
use Rattle.guard_maps.specs.Maps.{in_map, ahead_of}
use Rattle.guard.specs.Lemmas.Guarding.{guarded_late}
use Rattle.guard.specs.Lemmas.Patrolling.{now_at, begun, unseen, sees, halts, last_room, ends, falls, still_below, still_keeps, goes}
use Rattle.guard.proofs.patrol.Goals as goal
use Rattle.guard.proofs.patrol.Goals.{then-may_touch+in_default, else-may_touch}

pub returns-then-start-gt-HIGHEST_COUNT : goal.returns-then-start-gt-HIGHEST_COUNT
returns-then-start-gt-HIGHEST_COUNT c =
    let a = c.args in
    let one : a.bound - a.made ≡ suc (a.bound - a.made - 1) = omega (arith, c.requires.1.0) in
    rw (c.new.ensures, one) (sym (guarded_late _ _ _ _ _ a.start a.memory.now c.if-start-gt-HIGHEST_COUNT.true))

pub loop-steps-init : goal.loop-steps-init
loop-steps-init c =
    let a = c.args in (
      omega (arith, c.requires.1.0),
      omega (arith, c.requires.1.0),
      rw c.kept_apart-registers.ensures (begun (in_map a.guards.reads.now) (in_map a.guards.stores.now) a.start a.nmi a.made a.bound c.requires.1.0 c.requires.1.1 a.start.registers a.memory.now),
    )

pub overflow_sub-steps-then-may_touch : goal.overflow_sub-steps-then-may_touch
overflow_sub-steps-then-may_touch c = omega (arith, c.loop-steps.invariant.0)

pub overflow_add-cycles : goal.overflow_add-cycles
overflow_add-cycles c = omega (arith, c.loop-steps.invariant.1, c.requires.1.2 c.if-start-gt-HIGHEST_COUNT.false)

pub returns-in-Some : goal.returns-in-Some
returns-in-Some c =
    let a = c.args in
    let l = c.loop-steps in
    let room = c.requires.1.2 c.if-start-gt-HIGHEST_COUNT.false in
    rw c.kept-machine.ensures
    (sym (l.invariant.2 ∙ sees (in_map a.guards.reads.now) (in_map a.guards.stores.now) a.start a.nmi a.made a.bound c.requires.1.0 c.requires.1.1 c.requires.0 room l.clock l.invariant.0 l.invariant.1 l.registers l.memory _ (sym (rw c.kept-machine.ensures at c.look_ahead.ensures) ∙ c.in-Some.is)))

pub overflow_add-cycles-then-clock-performed : goal.overflow_add-cycles-then-clock-performed
overflow_add-cycles-then-clock-performed c =
    let a = c.args in
    let l = c.loop-steps in
    let room = c.requires.1.2 c.if-start-gt-HIGHEST_COUNT.false in
    omega (arith, last_room (in_map a.guards.reads.now) (in_map a.guards.stores.now) a.start a.nmi a.made a.bound c.requires.1.0 c.requires.1.1 c.requires.0 room l.clock l.invariant.0 l.invariant.1 l.registers l.memory _ c.get_byte-opcode.ensures c.dispatch.ensures c.in-Some-dispatch.performed c.in-Some-dispatch.is _ refl c.if-clock-performed.true)

pub returns-then-clock-performed : goal.returns-then-clock-performed
returns-then-clock-performed c =
    let a = c.args in
    let l = c.loop-steps in
    let room = c.requires.1.2 c.if-start-gt-HIGHEST_COUNT.false in
    let none : ahead_of (in_map a.guards.reads.now) (in_map a.guards.stores.now) (raised a.nmi) (now_at a.start a.nmi a.made a.bound l.clock l.registers) l.memory ≡ None = elim c.if-may_touch.branch [
      | then-may_touch+in_default w ↦ sym (rw w.kept-machine.ensures at w.look_ahead.ensures) ∙ w.in_default.is
      | else-may_touch w ↦ unseen (in_map a.guards.reads.now) (in_map a.guards.stores.now) a.start a.nmi a.made a.bound c.requires.1.0 c.requires.1.1 c.requires.0 room l.clock l.invariant.0 l.invariant.1 l.registers l.memory (rw c.new-near.ensures at (c.may_touch.ensures w.if-may_touch.false))
    ] in
    rw (c.new-then-clock-performed.ensures, c.new-left.ensures, c.kept_apart-registers-in-Some-dispatch.ensures)
    (sym (l.invariant.2 ∙ ends (in_map a.guards.reads.now) (in_map a.guards.stores.now) a.start a.nmi a.made a.bound c.requires.1.0 c.requires.1.1 c.requires.0 room l.clock l.invariant.0 l.invariant.1 l.registers l.memory _ c.get_byte-opcode.ensures c.dispatch.ensures c.in-Some-dispatch.performed c.in-Some-dispatch.is _ refl none c.if-clock-performed.true))

pub loop-steps-smaller : goal.loop-steps-smaller
loop-steps-smaller c =
    let a = c.args in
    let l = c.loop-steps in
    let room = c.requires.1.2 c.if-start-gt-HIGHEST_COUNT.false in
    falls (in_map a.guards.reads.now) (in_map a.guards.stores.now) a.start a.nmi a.made a.bound c.requires.1.0 c.requires.1.1 c.requires.0 room l.clock l.invariant.0 l.invariant.1 l.registers l.memory _ c.get_byte-opcode.ensures c.dispatch.ensures c.in-Some-dispatch.performed c.in-Some-dispatch.is _ refl c.if-clock-performed.false

pub loop-steps-preserved : goal.loop-steps-preserved
loop-steps-preserved c =
    let a = c.args in
    let l = c.loop-steps in
    let room = c.requires.1.2 c.if-start-gt-HIGHEST_COUNT.false in
    let none : ahead_of (in_map a.guards.reads.now) (in_map a.guards.stores.now) (raised a.nmi) (now_at a.start a.nmi a.made a.bound l.clock l.registers) l.memory ≡ None = elim c.if-may_touch.branch [
      | then-may_touch+in_default w ↦ sym (rw w.kept-machine.ensures at w.look_ahead.ensures) ∙ w.in_default.is
      | else-may_touch w ↦ unseen (in_map a.guards.reads.now) (in_map a.guards.stores.now) a.start a.nmi a.made a.bound c.requires.1.0 c.requires.1.1 c.requires.0 room l.clock l.invariant.0 l.invariant.1 l.registers l.memory (rw c.new-near.ensures at (c.may_touch.ensures w.if-may_touch.false))
    ] in (
      still_below (in_map a.guards.reads.now) (in_map a.guards.stores.now) a.start a.nmi a.made a.bound c.requires.1.0 c.requires.1.1 c.requires.0 room l.clock l.invariant.0 l.invariant.1 l.registers l.memory _ c.get_byte-opcode.ensures c.dispatch.ensures c.in-Some-dispatch.performed c.in-Some-dispatch.is _ refl c.if-clock-performed.false,
      still_keeps (in_map a.guards.reads.now) (in_map a.guards.stores.now) a.start a.nmi a.made a.bound c.requires.1.0 c.requires.1.1 c.requires.0 room l.clock l.invariant.0 l.invariant.1 l.registers l.memory _ c.get_byte-opcode.ensures c.dispatch.ensures c.in-Some-dispatch.performed c.in-Some-dispatch.is _ refl c.if-clock-performed.false,
      rw c.kept_apart-registers-in-Some-dispatch.ensures (l.invariant.2 ∙ goes (in_map a.guards.reads.now) (in_map a.guards.stores.now) a.start a.nmi a.made a.bound c.requires.1.0 c.requires.1.1 c.requires.0 room l.clock l.invariant.0 l.invariant.1 l.registers l.memory _ c.get_byte-opcode.ensures c.dispatch.ensures c.in-Some-dispatch.performed c.in-Some-dispatch.is _ refl c.if-clock-performed.false none),
    )

pub overflow_sub-steps-in-None-2 : goal.overflow_sub-steps-in-None-2
overflow_sub-steps-in-None-2 c = omega (arith, c.loop-steps.invariant.0)

pub overflow_add-cycles-in-None : goal.overflow_add-cycles-in-None
overflow_add-cycles-in-None c = omega (arith, c.loop-steps.invariant.1, c.requires.1.2 c.if-start-gt-HIGHEST_COUNT.false)

pub returns-in-None : goal.returns-in-None
returns-in-None c =
    let a = c.args in
    let l = c.loop-steps in
    let room = c.requires.1.2 c.if-start-gt-HIGHEST_COUNT.false in
    let none : ahead_of (in_map a.guards.reads.now) (in_map a.guards.stores.now) (raised a.nmi) (now_at a.start a.nmi a.made a.bound l.clock l.registers) l.memory ≡ None = elim c.if-may_touch.branch [
      | then-may_touch+in_default w ↦ sym (rw w.kept-machine.ensures at w.look_ahead.ensures) ∙ w.in_default.is
      | else-may_touch w ↦ unseen (in_map a.guards.reads.now) (in_map a.guards.stores.now) a.start a.nmi a.made a.bound c.requires.1.0 c.requires.1.1 c.requires.0 room l.clock l.invariant.0 l.invariant.1 l.registers l.memory (rw c.new-near.ensures at (c.may_touch.ensures w.if-may_touch.false))
    ] in
    rw (c.new-in-None.ensures, c.kept-left.ensures) (sym (l.invariant.2 ∙ halts (in_map a.guards.reads.now) (in_map a.guards.stores.now) a.start a.nmi a.made a.bound c.requires.1.0 c.requires.1.1 c.requires.0 room l.clock l.invariant.0 l.invariant.1 l.registers l.memory _ c.get_byte-opcode.ensures c.dispatch.ensures none c.in-None.is))
