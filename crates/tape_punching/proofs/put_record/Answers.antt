-- The parts one after the other; the sum begins with the count and the address.
use Rattle.std.proofs.Common.{◌≡◌, refl}
use Rattle.text_writing.specs.Lemmas.Writing.{after}
use Rattle.tape_paper.specs.Grammar.{sum_of}
use Rattle.tape_paper.specs.Lemmas.Writing.{head_sum}
use Rattle.tape_punching.proofs.put_record.Goals as goal

pub returns : goal.returns
returns c =
    let sum : c.sum_bytes-sum.result ≡ sum_of c.args.address c.args.bytes.now = head_sum c.args.address c.args.bytes.now refl (rw c.sum.ensures at c.sum_bytes-sum.ensures) in
    after (after (after c.put_head.ensures c.put_bytes.ensures) (rw sum at c.put_hex4.ensures)) c.put_text.ensures
