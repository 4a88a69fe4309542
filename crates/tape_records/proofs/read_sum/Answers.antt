use Rattle.std.proofs.Common.{◌≡◌, ◌+◌, ◌-◌, refl, ◌∙◌, arith}
use Rattle.text_reading.specs.Lemmas.Found.{gone, none, got, somewhere, some}
use Rattle.tape_records.specs.Lemmas.Loops.{sum_none, sum_more, sum_end}
use Rattle.tape_records.proofs.read_sum.Goals as goal

pub returns-in_err-byte : goal.returns-in_err-byte
returns-in_err-byte c =
    let text = c.args.text.now in
    let lost = sum_none text c.loop.next (omega arith) c.loop.value (c.args.count - c.loop.counter) (omega arith) (omega arith) (gone _ c.in_err-byte.ensures) in
    c.from_residual.ensures ∙ rw (c.loop.invariant.2, lost) (none _ refl)

pub loop-preserved : goal.loop-preserved
loop-preserved c =
    let text = c.args.text.now in
    let read = got _ c.in_ok-byte.ensures in
    let turn = sum_more text c.loop.next (omega arith) c.loop.value (c.args.count - c.loop.counter) (omega arith) (somewhere _ c.in_ok-byte.ensures) in
    let after : c.in_ok-byte.byte.next ≡ c.loop.next + 2 = rw read at turn.1 in
    let less : c.args.count - (c.loop.counter + 1) ≡ c.args.count - c.loop.counter - 1 = omega arith in
    (omega arith, omega arith, c.loop.invariant.2 ∙ turn.0 ∙ rw (after, less, read))

pub returns : goal.returns
returns c =
    let text = c.args.text.now in
    let end = sum_end text c.loop.next (omega arith) c.loop.value (c.args.count - c.loop.counter) (omega arith) (omega arith) in
    rw (c.loop.invariant.2, end) (some _ (λ z. omega arith))
