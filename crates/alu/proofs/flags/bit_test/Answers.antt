-- The three setters are those of `tested`.
use Rattle.registers.specs.State.{flags}
use Rattle.manual.specs.Branching.{tested}
use Rattle.alu.proofs.flags.bit_test.Goals as goal

pub returns : goal.returns
unfolding tested flags
returns c = rw (c.with_status.ensures, c.with_overflow.ensures, c.with_result-result.ensures)
