-- One more step at each turn.
use Rattle.std.proofs.Common.{◌≡◌, refl, ◌+◌, ◌≤◌, true, false, sym, ◌∙◌, arith}
use Rattle.manual.specs.Outcomes.{is_made}
use Rattle.manual.proofs.Lemmas.StepLaws.{long_short, long_whole}
use Rattle.text_writing.specs.Lemmas.Writing.{none_written, less_remains, none_remains}
use Rattle.trace_text.specs.Lemmas.Findings.{one_longer, no_longer}
use Rattle.trace_steps.specs.Lemmas.Traces.{run_next, run_refused, next_entry, no_entry, no_steps, no_more_steps, on_full_lem, not_on_full}
use Rattle.trace_steps.proofs.put_steps.Goals as goal

pub returns-in_default-clause-gives : goal.returns-in_default-clause-gives
returns-in_default-clause-gives c = long_short _ _ _ _ _ c.in_default.ensures.cases ∙ rw c.new.ensures

pub returns-in_default-clause-wrote : goal.returns-in_default-clause-wrote
returns-in_default-clause-wrote c = rw (not_on_full _ _ _ _ c.in_default.ensures.cases) (none_written (omega arith) (omega arith))

pub loop-steps-preserved : goal.loop-steps-preserved
loop-steps-preserved c =
    let h = c.loop-steps.invariant in
    let step = c.put_step-stepped.ensures in
    let made : is_made c.put_step-stepped.result.reason ≡ true = sym c.is_made.ensures ∙ c.if-not-is_made.false in (
      one_longer c.args.view _ c.loop-steps.steps h.0 step.next_bound,
      less_remains h.1 (next_entry _ _ _ _ step.gives _ _ c.loop-steps-test.true _ made) step.wrote,
      h.2 ∙ run_next _ _ _ _ step.gives _ _ c.loop-steps-test.true made,
    )

pub returns-then-not-is_made-clause-gives : goal.returns-then-not-is_made-clause-gives
returns-then-not-is_made-clause-gives c =
    let whole = c.in-Some.ensures.cases in
    let step = c.put_step-stepped.ensures in
    let refused : is_made c.put_step-stepped.result.reason ≡ false = sym c.is_made.ensures ∙ c.if-not-is_made.true in
    rw (long_whole _ _ _ _ whole.long)
    ((rw whole.same at c.loop-steps.invariant.2) ∙ run_refused _ _ _ _ step.gives _ _ c.loop-steps-test.true refused ∙ rw c.new-then-not-is_made.ensures)

pub returns-then-not-is_made-clause-wrote : goal.returns-then-not-is_made-clause-wrote
returns-then-not-is_made-clause-wrote c =
    let whole = c.in-Some.ensures.cases in
    let step = c.put_step-stepped.ensures in
    let refused : is_made c.put_step-stepped.result.reason ≡ false = sym c.is_made.ensures ∙ c.if-not-is_made.true in
    let all = less_remains c.loop-steps.invariant.1 (no_entry _ _ _ _ step.gives _ _ c.loop-steps-test.true _ refused) step.wrote in
    rw (on_full_lem _ _ _ _ whole.long) (rw whole.same at (none_remains all refl (omega arith) (omega arith)))

pub returns-then-not-is_made-clause-size_bound : goal.returns-then-not-is_made-clause-size_bound
returns-then-not-is_made-clause-size_bound c =
    let few : c.loop-steps.steps + 1 ≤ c.args.bound = omega (arith, c.loop-steps-test.true) in
    no_longer c.args.view _ (c.loop-steps.steps + 1) (one_longer c.args.view _ c.loop-steps.steps c.loop-steps.invariant.0 c.put_step-stepped.ensures.next_bound) few

pub returns-clause-gives : goal.returns-clause-gives
returns-clause-gives c =
    let whole = c.in-Some.ensures.cases in
    let steps : c.loop-steps.steps ≡ c.args.bound = omega (arith, c.loop-steps-test.false) in
    rw (long_whole _ _ _ _ whole.long)
    ((rw whole.same at c.loop-steps.invariant.2) ∙ no_more_steps _ _ _ _ c.loop-steps-test.false ∙ rw (c.new-2.ensures, steps))

pub returns-clause-wrote : goal.returns-clause-wrote
returns-clause-wrote c =
    let whole = c.in-Some.ensures.cases in
    rw (on_full_lem _ _ _ _ whole.long)
    (rw whole.same at (none_remains c.loop-steps.invariant.1 (no_steps _ _ _ _ _ c.loop-steps-test.false) (omega arith) (omega arith)))

pub returns-clause-size_bound : goal.returns-clause-size_bound
returns-clause-size_bound c = no_longer c.args.view _ c.loop-steps.steps c.loop-steps.invariant.0 (omega arith)
