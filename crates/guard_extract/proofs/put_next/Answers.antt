-- After the last count of 64 bits the last digit stands by itself.
use Rattle.std.proofs.Common.{rules}
use Rattle.text_writing.specs.Lemmas.Writing.{after}
use Rattle.guard_extract.specs.Lemmas.Lengths.{after_last}
use Rattle.guard_extract.proofs.put_next.Goals as goal

pub returns-then-count-eq18446744073709551615 : goal.returns-then-count-eq18446744073709551615
returns-then-count-eq18446744073709551615 c = rw (after_last c.args.count (search rules)) (after c.put_decimal.ensures c.put_byte.ensures)
