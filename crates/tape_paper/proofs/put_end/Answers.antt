-- The parts one after the other.
use Rattle.std.proofs.Common.{◌≡◌, [], arith}
use Rattle.text_writing.specs.Lemmas.Writing.{after}
use Rattle.tape_paper.specs.Grammar.{sum_of}
use Rattle.tape_paper.proofs.put_end.Goals as goal

pub returns : goal.returns
returns c =
    let sum : c.sum.result ≡ sum_of c.args.number [] = omega (arith, c.sum.ensures) in
    after (after c.put_head.ensures (rw sum at c.put_hex4.ensures)) c.put_text.ensures
