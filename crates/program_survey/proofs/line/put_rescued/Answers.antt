-- One field after the other.
use Rattle.std.proofs.Common.{arith}
use Rattle.text_writing.specs.Lemmas.Writing.{after, ends_within}
use Rattle.program_survey.specs.Lemmas.Lengths.{rescue_fits}
use Rattle.program_survey.proofs.line.put_rescued.Goals as goal

pub returns : goal.returns
returns c =
    let wrote = after (after (after c.put_spaced_decimal.ensures c.put_spaced_decimal-2.ensures) c.put_spaced_decimal-3.ensures) c.put_spaced_decimal-4.ensures in
    let r = c.numbers_of-answer.result in
    let short = rescue_fits (record { answer = r.0; size = r.1.size; kept = r.1.tally.kept; dropped = r.1.tally.dropped; first = r.1.tally.first }) (omega (arith, c)) (omega (arith, c)) (omega (arith, c)) (omega (arith, c)) in
    record { wrote = rw c.numbers_of-answer.ensures at wrote; upper_bound = ends_within wrote short }
