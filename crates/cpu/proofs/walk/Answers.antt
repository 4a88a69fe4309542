-- Each step of the loop is the next of the turn.
use Rattle.std.proofs.Common.{refl, ◌∙◌, arith}
use Rattle.cpu.specs.Lemmas.Walking.{begun, halts, last_room, ends, falls, still_below, still_keeps, goes}
use Rattle.cpu.proofs.walk.Goals as goal

pub loop-performed-init : goal.loop-performed-init
loop-performed-init c = (
  omega (arith, c.requires.0, c.requires.1),
  omega (arith, c.requires.0, c.requires.1),
  begun c.args.nmi c.args.bound c.args.count c.requires.0 c.requires.1 _ _,
)

pub overflow_add-count : goal.overflow_add-count
overflow_add-count c =
    let a = c.args in
    let l = c.loop-performed in
    omega (arith, last_room a.nmi a.bound a.count c.requires.0 c.requires.1 c.requires.2 l.clock l.invariant.0 l.invariant.1 l.registers l.memory _ c.get_byte-opcode.ensures c.dispatch.ensures c.in-Some.performed c.in-Some.is _ refl c.if-clock-performed.true)

pub returns-then-clock-performed : goal.returns-then-clock-performed
returns-then-clock-performed c =
    let a = c.args in
    let l = c.loop-performed in
    rw c.kept_apart-registers.ensures at l.invariant.2
    ∙ ends a.nmi a.bound a.count c.requires.0 c.requires.1 c.requires.2 l.clock l.invariant.0 l.invariant.1 l.registers l.memory _ c.get_byte-opcode.ensures c.dispatch.ensures c.in-Some.performed c.in-Some.is _ refl c.if-clock-performed.true
    ∙ rw (c.new.ensures, c.new-left.ensures, c.kept_apart-registers-in-Some.ensures)

pub loop-performed-smaller : goal.loop-performed-smaller
loop-performed-smaller c =
    let a = c.args in
    let l = c.loop-performed in
    falls a.nmi a.bound a.count c.requires.0 c.requires.1 c.requires.2 l.clock l.invariant.0 l.invariant.1 l.registers l.memory _ c.get_byte-opcode.ensures c.dispatch.ensures c.in-Some.performed c.in-Some.is _ refl c.if-clock-performed.false

pub loop-performed-preserved : goal.loop-performed-preserved
loop-performed-preserved c =
    let a = c.args in
    let l = c.loop-performed in (
      still_below a.nmi a.bound a.count c.requires.0 c.requires.1 c.requires.2 l.clock l.invariant.0 l.invariant.1 l.registers l.memory _ c.get_byte-opcode.ensures c.dispatch.ensures c.in-Some.performed c.in-Some.is _ refl c.if-clock-performed.false,
      still_keeps a.nmi a.bound a.count c.requires.0 c.requires.1 c.requires.2 l.clock l.invariant.0 l.invariant.1 l.registers l.memory _ c.get_byte-opcode.ensures c.dispatch.ensures c.in-Some.performed c.in-Some.is _ refl c.if-clock-performed.false,
      l.invariant.2
          ∙ goes a.nmi a.bound a.count c.requires.0 c.requires.1 c.requires.2 l.clock l.invariant.0 l.invariant.1 l.registers l.memory _ c.get_byte-opcode.ensures c.dispatch.ensures c.in-Some.performed c.in-Some.is _ refl c.if-clock-performed.false
          ∙ rw c.kept_apart-registers-in-Some.ensures,
    )

pub overflow_add-count-in-None : goal.overflow_add-count-in-None
overflow_add-count-in-None c = omega (arith, c.loop-performed.invariant.1, c.requires.2)

pub overflow_sub-bound-in-None : goal.overflow_sub-bound-in-None
overflow_sub-bound-in-None c = omega (arith, c.loop-performed.invariant.0)

pub returns-in-None : goal.returns-in-None
returns-in-None c =
    let a = c.args in
    let l = c.loop-performed in
    rw c.kept_apart-registers.ensures at l.invariant.2
    ∙ halts a.nmi a.bound a.count c.requires.0 c.requires.1 c.requires.2 l.clock l.invariant.0 l.invariant.1 l.registers l.memory _ c.get_byte-opcode.ensures c.dispatch.ensures c.in-None.is
    ∙ rw (c.new-in-None.ensures, c.new-left-in-None.ensures)
