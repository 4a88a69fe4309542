-- The line stands after the memory, in the buffer that was lent to the writer.
use Rattle.std.proofs.Common.{arith, rules}
use Rattle.image_halted.specs.Lemmas.Opening.{after_memory}
use Rattle.image_halted.proofs.put_state.Goals as goal

pub returns-clause-file_after : goal.returns-clause-file_after
returns-clause-file_after c =
    let lent = c.from-out.ensures in
    let wrote = rw (lent.begins, lent.same_bytes) at c.put_line.ensures.wrote.wrote in
    let both = after_memory wrote (omega (arith, c.put_line.ensures.upper_bound, lent.begins, wrote.ends, c.requires)) in
    search (rules, both.0, c.place.ensures, c.put_line.ensures.wrote.same, lent.same_reference)

pub returns-clause-prefix_len : goal.returns-clause-prefix_len
returns-clause-prefix_len c =
    let lent = c.from-out.ensures in
    let wrote = rw (lent.begins, lent.same_bytes) at c.put_line.ensures.wrote.wrote in
    let both = after_memory wrote (omega (arith, c.put_line.ensures.upper_bound, lent.begins, wrote.ends, c.requires)) in
    search (rules, both.1, c.place.ensures, c.put_line.ensures.wrote.same, lent.same_reference)
