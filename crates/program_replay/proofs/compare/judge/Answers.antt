-- What the step gives is what `step_by_record` promises; `==` of the memories is the definition's test.
use Rattle.std.proofs.Common.{eq-eqb}
use Rattle.program_replay.specs.Comparison.{judged}
use Rattle.program_replay.specs.Lemmas.SameBytes.{same_is}
use Rattle.program_replay.proofs.compare.judge.Goals as goal

pub returns : goal.returns
unfolding judged
returns c =
    rw (
      ← c.lines_at-lines.ensures,
      ← c.machine_at.ensures,
      c.step_by_record-stepped.ensures,
      ← c.from.ensures,
      eq-eqb _ _ c.if-from-after.false,
      ← same_is c.step_by_record-stepped.new.memory c.args.expected.now,
      ← c.eq.ensures,
      c.compare.ensures,
    )
