-- A trace that is checked part by part: two parts, one after the other, are checked as they are as one.
use Rattle.std.specs.Prelude.{ℕ, ◌+◌, List}
use Rattle.trace_checking.specs.Checking.{Part, part_of}

-- more entries are accepted before those of a part
abbrev pub added : ℕ → Part × List ℕ → Part × List ℕ
added k w = (part_of w.0.answer (k + w.0.lines) w.0.last, w.1)
