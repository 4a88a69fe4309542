-- One law for each way out, of what is found where the gap ends.
use Rattle.std.proofs.Common.{◌≡◌, ◌+◌, ◌*◌, Ok, ap, ◌∙◌, arith}
use Rattle.tape_records.specs.Inner.Items.{told_in}
use Rattle.tape_loading.specs.Lemmas.Following.{no_more, next_bad, next_stray, next_end, next_data}
use Rattle.tape_loading.proofs.next_record.Goals as goal

pub returns-then-size-at : goal.returns-then-size-at
returns-then-size-at c =
    let args = c.args in
    rw c.fault_at.ensures (no_more args.format args.text.now args.start args.before c.skip_separators-at.ensures c.if-size-at.true)

pub returns-then-end-size : goal.returns-then-end-size
returns-then-end-size c =
    let args = c.args in
    rw c.fault_at-then-end-size.ensures
    (next_stray args.format args.text.now args.start args.before c.skip_separators-at.ensures c.if-size-at.false c.rest.ensures c.read_item.ensures
    (ap told_in (c.in-Ok-End.is ∙ ap Ok c.in-Ok-End.field-0-is)) c.skip_separators-end.ensures c.if-end-size.true)

pub returns-in-Err : goal.returns-in-Err
returns-in-Err c =
    let args = c.args in
    rw c.fault_at-in-Err.ensures
    (next_bad args.format args.text.now args.start args.before c.skip_separators-at.ensures c.if-size-at.false c.rest.ensures c.read_item.ensures
    (ap told_in c.in-Err.is))

pub returns-else-end-size : goal.returns-else-end-size
returns-else-end-size c =
    let args = c.args in
    next_end args.format args.text.now args.start args.before c.skip_separators-at.ensures c.if-size-at.false c.rest.ensures c.read_item.ensures
    (ap told_in (c.in-Ok-End.is ∙ ap Ok c.in-Ok-End.field-0-is)) c.skip_separators-end.ensures c.if-end-size.false

pub returns-in-Ok-Data : goal.returns-in-Ok-Data
returns-in-Ok-Data c =
    let args = c.args in
    let after : c.skip_separators-at.result + c.size.result ≡ c.skip_separators-at.result + 11 + 2 * c.in-Ok-Data.head.count = omega (arith, c.size.ensures) in
    rw after
    (next_data args.format args.text.now args.start args.before c.skip_separators-at.ensures c.if-size-at.false c.rest.ensures c.read_item.ensures
    (ap told_in (c.in-Ok-Data.is ∙ ap Ok c.in-Ok-Data.field-0-is)) c.head_size.ensures)
