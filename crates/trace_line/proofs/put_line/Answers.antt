-- The fields, and LF.
use native.Mathlib.Omega.{arith}
use Rattle.text_writing.specs.Lemmas.Writing.{after, ends_within}
use Rattle.trace_line.specs.Theorems.Lines.{line_short}
use Rattle.trace_line.proofs.put_line.Goals as goal

pub returns : goal.returns
returns c =
    let wrote = after c.put_machine.ensures c.put_byte.ensures in
    record { wrote = wrote; upper_bound = ends_within wrote (line_short c.args.machine (omega arith)) }
