-- One field after the other.
use Rattle.std.proofs.Common.{arith}
use Rattle.text_writing.specs.Lemmas.Writing.{after, ends_within}
use Rattle.trace_text.specs.Lemmas.Findings.{line_length}
use Rattle.trace_text.proofs.entry.put_timing.Goals as goal

pub returns : goal.returns
returns c =
    let s = c.args in
    let wrote = after (after (after c.put_text.ensures c.put_spaced_decimal.ensures) c.put_spaced_hex4.ensures) c.put_byte.ensures in
    record { wrote = wrote; upper_bound = ends_within wrote (line_length s.instruction.now s.cycles s.first (omega (arith, c))) }
