use Rattle.std.proofs.Common.{arith, rules, sym, ◌∙◌, ◌≡◌}
use Rattle.manual.proofs.Lemmas.StepLaws.{was_made, was_refused}
use Rattle.manual_parts.specs.Lemmas.Parts.{long_steps, turn, halt}
use Rattle.console.specs.Theorems.Failing.{stays_on}
use Rattle.console_showing.proofs.parts.run_in_parts.Goals as goal

pub overflow_add-result : goal.overflow_add-result
overflow_add-result g c = omega (arith, long_steps _ _ _ _ c.make-ended.ensures.gives)

pub returns-then-not-is_made-clause-gives : goal.returns-then-not-is_made-clause-gives
returns-then-not-is_made-clause-gives g c = λ z.
    halt _ _ _ _ _ _ c.loop-made.invariant.2 (omega arith) c.make-ended.ensures.gives (was_refused _ (sym c.is_made.ensures ∙ c.if-not-is_made.true))

pub loop-made-preserved : goal.loop-made-preserved
loop-made-preserved g c =
    let same : c.STEPS-made.result ≡ c.STEPS-in-loop-made.result = c.STEPS-made.ensures ∙ sym c.STEPS-in-loop-made.ensures in (
      omega arith,
      search rules,
      rw same (turn _ _ _ _ _ _ c.loop-made.invariant.2 (omega arith) c.make-ended.ensures.gives (search rules) (was_made _ (sym c.is_made.ensures ∙ c.if-not-is_made.false))),
      stays_on c.loop-made.invariant.3 c.make-ended.ensures.failure_stays,
      λ q. c.make-ended.ensures.none_fails q ∙ c.loop-made.invariant.4 q,
    )

pub overflow_add-result-2 : goal.overflow_add-result-2
overflow_add-result-2 g c = omega (arith, long_steps _ _ _ _ c.make-last.ensures.gives)
