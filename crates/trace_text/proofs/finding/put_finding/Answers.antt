-- The refusal picks the sentence.
use Rattle.std.proofs.Common.{arith}
use Rattle.trace_text.specs.Findings.{finding}
use Rattle.trace_text.specs.Lemmas.Findings.{other_finding}
use Rattle.trace_text.proofs.finding.put_finding.Goals as goal

pub returns-in_default : goal.returns-in_default
unfolding finding
returns-in_default c = rw c.in_default.is c.put_accepted.ensures

pub returns-in-StrayEntry : goal.returns-in-StrayEntry
unfolding finding
returns-in-StrayEntry c =
    record { wrote = rw (c.in-Some.is, c.in-StrayEntry.is) c.put_bad.ensures.wrote; upper_bound = omega (arith, c.put_bad.ensures.upper_bound) }

pub returns-in_default-refusal : goal.returns-in_default-refusal
returns-in_default-refusal c =
    let bad = c.put_bad-in_default-refusal.ensures in
    record { wrote = rw (c.in-Some.is, other_finding c.in-Some.refusal c.args.number c.in_default-refusal.not-StrayEntry) bad.wrote; upper_bound = omega (arith, bad.upper_bound) }
