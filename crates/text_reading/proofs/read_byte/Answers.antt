-- A digit that is not there, and two that are.
use Rattle.std.proofs.Common.{arith}
use Rattle.text_reading.specs.Numbers.{byte_at}
use Rattle.text_reading.specs.Lemmas.Found.{gone, none, got, somewhere, some, lost_digit, small_digit}
use Rattle.text_reading.proofs.read_byte.Goals as goal

pub returns-in_err-high : goal.returns-in_err-high
unfolding byte_at
returns-in_err-high c =
    rw c.from_residual.ensures (none _ (lost_digit c.args.text.now (omega arith) _ _ (gone _ c.in_err-high.ensures)))

pub returns-in_err-low : goal.returns-in_err-low
unfolding byte_at
returns-in_err-low c =
    rw c.from_residual-in_err-low.ensures (none _ (rw (got _ c.in_ok-high.ensures) (gone _ c.in_err-low.ensures)))

pub overflow_mul-result : goal.overflow_mul-result
overflow_mul-result c = omega (arith, small_digit 16 _ _ (omega arith) c.in_ok-high.ensures)

pub overflow_add-result : goal.overflow_add-result
overflow_add-result c =
    omega (arith, small_digit 16 _ _ (omega arith) c.in_ok-high.ensures, small_digit 16 _ _ (omega arith) c.in_ok-low.ensures)

pub returns : goal.returns
unfolding byte_at
returns c =
    rw (← got _ c.in_ok-low.ensures, ← got _ c.in_ok-high.ensures) (some _ (rw (got _ c.in_ok-high.ensures) (somewhere _ c.in_ok-low.ensures)))
