-- A byte that is not there, and two that are.
use Rattle.std.proofs.Common.{arith}
use Rattle.text_reading.specs.Numbers.{word_at}
use Rattle.text_reading.specs.Lemmas.Found.{gone, none, got, somewhere, some, lost_byte}
use Rattle.text_reading.proofs.read_word.Goals as goal

pub returns-in_err-high : goal.returns-in_err-high
unfolding word_at
returns-in_err-high c =
    rw c.from_residual.ensures (none _ (lost_byte c.args.text.now (omega arith) _ (gone _ c.in_err-high.ensures)))

pub returns-in_err-low : goal.returns-in_err-low
unfolding word_at
returns-in_err-low c =
    rw c.from_residual-in_err-low.ensures (none _ (rw (got _ c.in_ok-high.ensures) (gone _ c.in_err-low.ensures)))

pub returns : goal.returns
unfolding word_at
returns c =
    rw (← got _ c.in_ok-low.ensures, ← got _ c.in_ok-high.ensures) (some _ (rw (got _ c.in_ok-high.ensures) (somewhere _ c.in_ok-low.ensures)))
