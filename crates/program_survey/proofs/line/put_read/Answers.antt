-- One field after the other.
use Rattle.std.proofs.Common.{arith}
use Rattle.text_writing.specs.Lemmas.Writing.{after, ends_within}
use Rattle.program_survey.specs.Lemmas.Lengths.{read_fits}
use Rattle.program_survey.proofs.line.put_read.Goals as goal

pub returns : goal.returns
returns c =
    let wrote = after (after c.put_decimal.ensures c.put_spaced_decimal.ensures) c.put_spaced_decimal-2.ensures in
    let r = c.number_and_reach-answer.result in
    let short = read_fits (record { answer = r.0; good = r.1.good; place = r.1.place }) (omega (arith, c)) (omega (arith, c)) (omega (arith, c)) in
    record { wrote = rw c.number_and_reach-answer.ensures at wrote; upper_bound = ends_within wrote short }
