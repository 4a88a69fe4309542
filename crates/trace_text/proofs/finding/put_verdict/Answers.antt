-- One field after the other.
use Rattle.std.proofs.Common.{arith}
use Rattle.text_writing.specs.Delivered.{answer_in}
use Rattle.text_writing.specs.Lemmas.Writing.{after, ends_within}
use Rattle.trace_text.specs.Lemmas.Findings.{no_right, some_right, verdict_length}
use Rattle.trace_text.proofs.finding.put_verdict.Goals as goal

pub returns-then-right-ne0 : goal.returns-then-right-ne0
returns-then-right-ne0 c =
    let right = c.args.right.now in
    let fields = rw c.answer_in.ensures at (after c.put_decimal.ensures c.put_spaced_decimal.ensures) in
    let wrote = rw (← some_right right c.if-right-ne0.true) at (after fields (after c.put_byte.ensures c.put_text.ensures)) in
    record { wrote = wrote; upper_bound = ends_within wrote (verdict_length (answer_in c.args.refusal) c.args.line right (omega (arith, c)) (omega (arith, c))) }

pub returns-else-right-ne0 : goal.returns-else-right-ne0
returns-else-right-ne0 c =
    let right = c.args.right.now in
    let fields = rw c.answer_in.ensures at (after c.put_decimal.ensures c.put_spaced_decimal.ensures) in
    let wrote = rw (← no_right right c.if-right-ne0.false) at (after fields c.put_byte-else-right-ne0.ensures) in
    record { wrote = wrote; upper_bound = ends_within wrote (verdict_length (answer_in c.args.refusal) c.args.line right (omega (arith, c)) (omega (arith, c))) }
