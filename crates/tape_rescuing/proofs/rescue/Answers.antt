-- One law for each way out. What is kept and how long the text is, is what the first writing answers.
use Rattle.std.proofs.Common.{rules, arith}
use Rattle.tape_rescuing.specs.Lemmas.Outcomes.{too_many, no_room_lem, all_written}
use Rattle.tape_rescuing.proofs.rescue.Goals as goal

pub returns-then-measured-gt65535-clause-out_after : goal.returns-then-measured-gt65535-clause-out_after
returns-then-measured-gt65535-clause-out_after c = too_many _ _ c.put_saved-measured.ensures c.if-measured-gt65535.true

pub returns-then-out-place-clause-out_after : goal.returns-then-out-place-clause-out_after
returns-then-out-place-clause-out_after c =
    no_room_lem _ _ c.put_saved-measured.ensures c.new-measure.ensures.begins c.if-measured-gt65535.false (omega (arith, c.place.ensures))

pub returns-clause-out_after : goal.returns-clause-out_after
returns-clause-out_after c =
    all_written _ _ c.put_saved-measured.ensures c.new-measure.ensures.begins c.if-measured-gt65535.false (omega (arith, c.place.ensures))
    c.new-written.ensures.same_bytes c.new-written.ensures.begins c.put_saved-tally.ensures c.place-size.ensures (search rules)
