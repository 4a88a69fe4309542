-- A place that may be the end of a text.
use Rattle.std.proofs.Common.{arith, lt-ltb, le-ltb}
use Rattle.text_reading.specs.Lemmas.Found.{none, near}
use Rattle.text_reading.proofs.read_character.Goals as goal

pub returns-in_err-value : goal.returns-in_err-value
returns-in_err-value c =
    rw c.from_residual.ensures (none _ (rw (le-ltb _ _ c.in_err-value.ensures.lookup.3)))

pub returns : goal.returns
returns c =
    let there = c.in_ok-value.ensures.lookup.3 in
    rw (c.then_some.ensures, lt-ltb _ _ there.0, ← there.1 0) (near _ (omega (arith, there.0)))
