-- The length is tested before any step; then each turn comes some steps nearer, or is the end.
use Rattle.std.proofs.Common.{refl, sym, ◌∙◌, arith}
use Rattle.guard_maps.specs.Lemmas.Maps.{empty_map, put_there}
use Rattle.guard_stop.specs.Lemmas.Nearing.{there, all_made_lem, to_short, arrives}
use Rattle.guard_stop.proofs.run_to.Goals as goal

pub returns-in_default : goal.returns-in_default
returns-in_default c = rw c.new.ensures (to_short _ _ _ _ _ _ c.in_default.ensures.cases)

pub loop-steps-init : goal.loop-steps-init
loop-steps-init c = refl

pub returns-then-is_at : goal.returns-then-is_at
returns-then-is_at c =
    rw c.new-then-is_at.ensures
    (arrives _ _ _ _ _ _ c.in-Some.ensures.cases.long
    (rw c.in-Some.ensures.cases.same at c.loop-steps.invariant ∙ there _ _ _ _ _ _ (sym c.is_at.ensures ∙ c.if-is_at.true)))

pub approach-ended-requires : goal.approach-ended-requires
approach-ended-requires c = (
  put_there _ _ c.args.stop c.put_in.ensures,
  empty_map _ 8192 c.empty_map-none.ensures,
  c.loop-steps-test.true,
  sym c.is_at.ensures ∙ c.if-is_at.false,
)

pub returns-then-not-is_made : goal.returns-then-not-is_made
returns-then-not-is_made c =
    arrives _ _ _ _ _ _ c.in-Some.ensures.cases.long
    (rw c.in-Some.ensures.cases.same at c.loop-steps.invariant ∙ c.approach-ended.ensures.same ∙ rw (sym c.is_made.ensures ∙ c.if-not-is_made.true))

pub loop-steps-smaller : goal.loop-steps-smaller
loop-steps-smaller c = omega (arith, c.approach-ended.ensures.some (sym c.is_made.ensures ∙ c.if-not-is_made.false))

pub loop-steps-preserved : goal.loop-steps-preserved
loop-steps-preserved c = c.loop-steps.invariant ∙ c.approach-ended.ensures.same ∙ rw (sym c.is_made.ensures ∙ c.if-not-is_made.false)

pub returns : goal.returns
returns c =
    rw c.new-2.ensures
    (arrives _ _ _ _ _ _ c.in-Some.ensures.cases.long
    (rw c.in-Some.ensures.cases.same at c.loop-steps.invariant ∙ all_made_lem _ _ _ _ _ _ (omega (arith, c.loop-steps-test.false))))
