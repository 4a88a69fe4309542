-- There is no LF from here on.
use mathlib.Core.Path.{◌≡◌}
use Rattle.trace_checking.specs.Inner.Cutting.{end_before, whole_end}
use Rattle.trace_checking.proofs.whole_lines.Given as goal

abbrev pub invariant-loop-last : goal.invariant-loop-last
invariant-loop-last l = whole_end l.text ≡ end_before l.last l.text
