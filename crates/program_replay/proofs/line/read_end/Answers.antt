-- By whether LF stands there at once.
use Rattle.std.proofs.Common.{arith, eq-eqb, ne_eqb}
use Rattle.text_reading.specs.Numbers.{nowhere}
use Rattle.text_reading.specs.Lemmas.Found.{none_place, gone_place, got_place, somewhere_place, lost_mark}
use Rattle.program_replay.specs.Verdicts.{end_at}
use Rattle.program_replay.proofs.line.read_end.Goals as goal

pub returns-in_err-read_mark-in-None : goal.returns-in_err-read_mark-in-None
unfolding end_at
returns-in_err-read_mark-in-None c =
    rw (c.from_residual.ensures, eq-eqb _ nowhere (gone_place _ c.in-None.ensures))
    (none_place _ (lost_mark c.args.text.now (omega arith) 10 _ (gone_place _ c.in_err-read_mark-in-None.ensures)))

pub returns-in_ok-read_mark-in-None : goal.returns-in_ok-read_mark-in-None
unfolding end_at
returns-in_ok-read_mark-in-None c =
    rw (c.read_mark-in-None-2.ensures, eq-eqb _ nowhere (gone_place _ c.in-None.ensures), got_place _ c.in_ok-read_mark-in-None.ensures)

pub returns-in-Some : goal.returns-in-Some
unfolding end_at
returns-in-Some c = rw (ne_eqb _ nowhere (somewhere_place _ c.in-Some.ensures)) c.in-Some.ensures
