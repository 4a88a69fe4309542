-- By the code's tests of the stretch at the place.
use Rattle.std.proofs.Common.{arith, sym}
use Rattle.guard_extract.specs.Lemmas.Stretches.{begins, ends_missing, ends_otherwise, ends_backwards, ends_at_start, ends_well, goes_on_lem, later}
use Rattle.guard_extract.proofs.stretches.read_stretches.Goals as goal

pub loop-stretch-init : goal.loop-stretch-init
loop-stretch-init c = begins _ _

pub returns-in_default : goal.returns-in_default
returns-in_default c = ends_missing c.args.word.now _ _ _ c.loop-stretch.invariant (omega arith) c.in_default.ensures

pub returns-in_default-place_after : goal.returns-in_default-place_after
returns-in_default-place_after c =
    ends_otherwise c.args.word.now _ _ _ c.loop-stretch.invariant (omega arith) c.in-Some.ensures c.in_default-place_after.ensures

pub returns-then-stretch : goal.returns-then-stretch
returns-then-stretch c =
    ends_backwards c.args.word.now _ _ _ c.loop-stretch.invariant (omega arith) c.in-Some.ensures c.in-Some-place_after.ensures c.if-stretch.true

pub returns-then-holds_start : goal.returns-then-holds_start
returns-then-holds_start c =
    ends_at_start c.args.word.now _ _ _ c.loop-stretch.invariant (omega arith) c.in-Some.ensures c.in-Some-place_after.ensures c.if-stretch.false (sym c.if-holds_start.ensures)

pub returns-then-stretch-word : goal.returns-then-stretch-word
returns-then-stretch-word c =
    ends_well c.args.word.now _ _ _ c.loop-stretch.invariant (omega arith) c.in-Some.ensures c.in-Some-place_after.ensures c.if-stretch.false (sym c.if-holds_start.ensures) _ c.put_stretch.ensures c.if-stretch-word.true

pub loop-stretch-smaller : goal.loop-stretch-smaller
loop-stretch-smaller c =
    let more = later c.args.word.now _ _ _ c.loop-stretch.invariant (omega arith) c.in-Some.ensures c.in-Some-place_after.ensures c.if-stretch.false (sym c.if-holds_start.ensures) _ c.put_stretch.ensures c.if-stretch-word.false in
    omega (arith, more)

pub loop-stretch-preserved : goal.loop-stretch-preserved
loop-stretch-preserved c =
    goes_on_lem c.args.word.now _ _ _ c.loop-stretch.invariant (omega arith) c.in-Some.ensures c.in-Some-place_after.ensures c.if-stretch.false (sym c.if-holds_start.ensures) _ c.put_stretch.ensures c.if-stretch-word.false
