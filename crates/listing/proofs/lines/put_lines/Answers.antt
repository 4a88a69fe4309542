use Rattle.std.proofs.Common.{arith}
use Rattle.text_writing.specs.Lemmas.Writing.{less_remains, none_remains}
use Rattle.listing.specs.Lemmas.Lines.{next_line_lem, cut_line, none_line}
use Rattle.listing.proofs.lines.put_lines.Goals as goal

pub returns-then-end-address : goal.returns-then-end-address
returns-then-end-address c =
    let s = c.args in
    let cut = cut_line s.memory.now c.loop-address.address s.end c.line_size-size.ensures.value c.if-end-address.true in
    c.loop-address.invariant.1 _ (rw cut c.put_rest.ensures)

pub loop-address-preserved : goal.loop-address-preserved
loop-address-preserved c =
    let s = c.args in
    let next = next_line_lem s.memory.now c.loop-address.address s.end c.line_size-size.ensures.value c.if-end-address.false in
    (omega arith, less_remains c.loop-address.invariant.1 next c.put_line.ensures)

pub returns : goal.returns
returns c = none_remains c.loop-address.invariant.1 (none_line _ c.loop-address.address _ (omega arith)) (omega arith) (omega arith)
