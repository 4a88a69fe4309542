-- A state is shown if the step was made.
use Rattle.std.proofs.Common.{◌≡◌, length, ◌∙◌, sym, arith}
use Rattle.manual.proofs.Lemmas.StepLaws.{step_whole}
use Rattle.trace_text.specs.declared.View.TheVariants.{States}
use Rattle.trace_steps.specs.Lemmas.Traces.{shown_made}
use Rattle.trace_steps.proofs.put_state.Goals as goal

pub returns-then-not-is_made-clause-gives : goal.returns-then-not-is_made-clause-gives
returns-then-not-is_made-clause-gives c =
    let full : length c.args.memory.now ≡ 65536 = omega arith in
    rw c.idle.ensures at (rw (step_whole _ _ _ full) at c.single_step-stepped.ensures)

pub returns-clause-gives : goal.returns-clause-gives
returns-clause-gives c =
    let full : length c.args.memory.now ≡ 65536 = omega arith in
    rw c.idle.ensures at (rw (step_whole _ _ _ full) at c.single_step-stepped.ensures)

pub returns-clause-wrote : goal.returns-clause-wrote
returns-clause-wrote c =
    rw (shown_made States c.args.memory.now c.args.machine c.single_step-stepped.result (sym c.is_made.ensures ∙ c.if-not-is_made.false)) c.put_line.ensures.wrote
