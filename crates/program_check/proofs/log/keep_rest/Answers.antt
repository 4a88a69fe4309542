-- A copy within a buffer is what is stored at its start.
use Rattle.std.proofs.Common.{◌-◌, take, drop, arith, length-drop, length-take-le}
use Rattle.std.proofs.lemmas.List.Edits.{sets-eq}
use Rattle.program_check.proofs.log.keep_rest.Goals as goal

pub returns-clause-buffer_after : goal.returns-clause-buffer_after
returns-clause-buffer_after c =
    let b = c.args.buffer.now in
    let left = c.args.size - c.args.end in
    let size = length-take-le left (drop c.args.end b) (omega (arith, c.requires, length-drop c.args.end b)) in
    rw (c.copy_within.ensures.after, sets-eq (take left (drop c.args.end b)) b 0 (omega (arith, c.requires, size)), size)
