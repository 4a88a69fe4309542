-- One law for each way out. The verdict and the length of the text are what the first writing answers.
use Rattle.std.proofs.Common.{◌≡◌, Err, rules, arith}
use Rattle.tape_moving.specs.Lemmas.Outcomes.{move_bad, move_no_room, move_written}
use Rattle.tape_moving.proofs.deliver.Goals as goal

pub returns-in_err-reach-clause-out_after : goal.returns-in_err-reach-clause-out_after
returns-in_err-reach-clause-out_after c =
    let args = c.args in
    let refused : c.from_residual.result ≡ Err c.in_err-reach.field-0.0 = search rules in
    rw refused (move_bad args.from args.to args.text.now args.out.now c.in_err-reach.ensures)

pub returns-then-out-place-clause-out_after : goal.returns-then-out-place-clause-out_after
returns-then-out-place-clause-out_after c =
    let args = c.args in
    move_no_room args.from args.to args.text.now args.out.now c.in_ok-reach.ensures c.new-measure.ensures.begins (omega (arith, c.place.ensures))

pub returns-clause-out_after : goal.returns-clause-out_after
returns-clause-out_after c =
    let args = c.args in
    move_written args.from args.to args.text.now args.out.now c.in_ok-reach.ensures c.new-measure.ensures.begins (omega (arith, c.place.ensures))
    c.new-written.ensures.same_bytes c.new-written.ensures.begins c.in_ok-reach-2.ensures c.place-size.ensures (search rules)
