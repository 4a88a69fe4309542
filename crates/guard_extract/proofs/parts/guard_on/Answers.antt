-- Each part makes some of the steps that are left.
use Rattle.std.proofs.Common.{◌≡◌, ◌+◌, ◌-◌, ◌<◌, ◌≤◌, sym, ◌∙◌, arith}
use Rattle.std.proofs.lemmas.Result.{err_from_is_err_and}
use Rattle.guard_maps.specs.Lemmas.Maps.{empty_map}
use Rattle.guard.specs.Lemmas.Guarding.{part_halts, part_stops, part_goes}
use Rattle.guard_extract.proofs.parts.guard_on.Goals as goal

pub loop-made-init : goal.loop-made-init
loop-made-init c =
    let all : c.args.steps - 0 ≡ c.args.steps = omega arith in
    (omega arith, rw all)

pub returns-in_err-ended : goal.returns-in_err-ended
returns-in_err-ended c =
    let few : (◌<◌ 0 5000000) × (5000000 ≤ c.args.steps - c.loop-made.made) = (omega arith, omega (arith, c.loop-made-test.true)) in
    let span : c.loop-made.made + 5000000 - c.loop-made.made ≡ 5000000 = omega arith in
    let exit = err_from_is_err_and c.from_residual.result c.from_residual.ensures.1 in
    rw (exit.1, exit.2)
    (sym (c.loop-made.invariant.1 ∙ part_halts _ _ _ _ _ _ _ _ few _ _ (rw (c.in_err-ended.was, empty_map _ 8192 c.empty_map-none.ensures, span, c.idle.ensures) at c.guarded_part.ensures)))

pub returns-then-not-is_made : goal.returns-then-not-is_made
returns-then-not-is_made c =
    let few : (◌<◌ 0 5000000) × (5000000 ≤ c.args.steps - c.loop-made.made) = (omega arith, omega (arith, c.loop-made-test.true)) in
    let span : c.loop-made.made + 5000000 - c.loop-made.made ≡ 5000000 = omega arith in
    sym (c.loop-made.invariant.1 ∙ part_stops _ _ _ _ _ _ _ _ few _ _ (rw (c.in_ok-ended.was, empty_map _ 8192 c.empty_map-none.ensures, span, c.idle.ensures) at c.guarded_part.ensures) (sym c.is_made.ensures ∙ c.if-not-is_made.true))

pub loop-made-smaller : goal.loop-made-smaller
loop-made-smaller c =
    let few : (◌<◌ 0 5000000) × (5000000 ≤ c.args.steps - c.loop-made.made) = (omega arith, omega (arith, c.loop-made-test.true)) in
    let span : c.loop-made.made + 5000000 - c.loop-made.made ≡ 5000000 = omega arith in
    let goes = part_goes _ _ _ _ _ _ _ _ few _ _ (rw (c.in_ok-ended.was, empty_map _ 8192 c.empty_map-none.ensures, span, c.idle.ensures) at c.guarded_part.ensures) (sym c.is_made.ensures ∙ c.if-not-is_made.false) in
    omega (arith, goes.0, goes.1)

pub loop-made-preserved : goal.loop-made-preserved
loop-made-preserved c =
    let few : (◌<◌ 0 5000000) × (5000000 ≤ c.args.steps - c.loop-made.made) = (omega arith, omega (arith, c.loop-made-test.true)) in
    let span : c.loop-made.made + 5000000 - c.loop-made.made ≡ 5000000 = omega arith in
    let goes = part_goes _ _ _ _ _ _ _ _ few _ _ (rw (c.in_ok-ended.was, empty_map _ 8192 c.empty_map-none.ensures, span, c.idle.ensures) at c.guarded_part.ensures) (sym c.is_made.ensures ∙ c.if-not-is_made.false) in
    (goes.1, c.loop-made.invariant.1 ∙ goes.2)

pub returns : goal.returns
returns c = rw (empty_map _ 8192 c.empty_map-none.ensures, c.idle-2.ensures) at c.guarded_part-2.ensures ∙ sym c.loop-made.invariant.1
