use borrow.Author.Tests.{not-true, not-false}
use Rattle.console.specs.Theorems.Failing.{stays_on}
use Rattle.program_check.specs.Lemmas.Turns.{again, over}
use Rattle.program_check.proofs.log.check_from.Goals as goal

pub returns-then-not-turn-clause-ends : goal.returns-then-not-turn-clause-ends
returns-then-not-turn-clause-ends c = λ z.
    over c.check_some-turn.result _ _ c.loop.invariant.1 (c.check_some-turn.ensures.more z) (not-true _ c.if-not-turn.true)

pub loop-preserved : goal.loop-preserved
loop-preserved c =
    let more = not-false _ c.if-not-turn.false in (
      c.check_some-turn.ensures.kept_in_bounds,
      again c.check_some-turn.result _ _ c.loop.invariant.1 (c.check_some-turn.ensures.more (c.check_some-turn.ensures.failed_after more)) more,
      stays_on c.loop.invariant.2 c.check_some-turn.ensures.failure_stays,
    )
