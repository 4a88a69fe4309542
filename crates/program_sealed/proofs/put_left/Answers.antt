-- The memory stands at the start of the buffer.
use Rattle.std.proofs.Common.{◌≤◌, arith, sym, length, length-take-le}
use Rattle.program_sealed.proofs.put_left.Goals as goal

pub returns-in-Err-clause-prefix_len : goal.returns-in-Err-clause-prefix_len
returns-in-Err-clause-prefix_len c =
    let inside : 65536 ≤ length c.args.file.now = omega (arith, c.requires) in
    (inside, sym (length-take-le _ c.args.file.now inside))
