-- Where a step was made the numbers are the machine's.
use mathlib.Core.Path.{refl}
use Rattle.mos6502_numbers.proofs.hand_back.Goals as goal

pub returns-then-made : goal.returns-then-made
returns-then-made c = rw c.if-made.true (record { registers_after = c.pack.ensures.value; cycles_after = refl; cycles_after_2 = rw (c.pack.ensures.result_value.0, c.pack.ensures.result_value.1) })

pub returns-else-made : goal.returns-else-made
returns-else-made c = rw c.if-made.false (record { registers_after = refl; cycles_after = refl; cycles_after_2 = refl })
