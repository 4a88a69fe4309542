-- One law for each way out. The length of the text is where its first writing ends.
use Rattle.std.proofs.Common.{arith, rules}
use Rattle.text_writing.specs.Lemmas.Delivered.{all_written, no_room_lem, told_all}
use Rattle.listing.specs.Listing.{listing}
use Rattle.listing.specs.Lemmas.Outcomes.{to_the_last, not_full, backwards, in_order_lem}
use Rattle.listing.proofs.Lengths.{listing_length}
use Rattle.listing.proofs.list.Goals as goal

pub returns-in_default-clause-text_after : goal.returns-in_default-clause-text_after
returns-in_default-clause-text_after c = not_full _ _ _ _ c.in_default.ensures.cases

pub returns-then-last-first-clause-text_after : goal.returns-then-last-first-clause-text_after
returns-then-last-first-clause-text_after c = backwards _ _ _ _ c.in-Some.ensures.cases.long c.if-last-first.true

pub returns-then-text-place-clause-text_after : goal.returns-then-text-place-clause-text_after
returns-then-text-place-clause-text_after c =
    let whole = c.in-Some.ensures.cases in
    let m = c.args.memory.now in
    let first = c.args.first in
    let last = c.args.last in
    let lines = rw whole.same at c.put_lines.ensures.wrote in
    let counted = to_the_last m first last c.if-last-first.false lines in
    let short = listing_length m first last (omega (arith, c)) in
    in_order_lem _ _ _ _ whole.long c.if-last-first.false
    (no_room_lem (listing m first last) _ (omega (arith, counted.ends, short, c.if-text-place.true)))

pub returns-clause-text_after : goal.returns-clause-text_after
returns-clause-text_after c =
    let whole = c.in-Some.ensures.cases in
    let m = c.args.memory.now in
    let first = c.args.first in
    let last = c.args.last in
    let lines = rw whole.same at c.put_lines.ensures.wrote in
    let counted = to_the_last m first last c.if-last-first.false lines in
    let again = rw (whole.same, c.new-out.ensures.same_bytes, c.new-out.ensures.begins) at c.put_lines-2.ensures.wrote in
    let wrote = to_the_last m first last c.if-last-first.false again in
    let short = listing_length m first last (omega (arith, c)) in
    told_all
    (in_order_lem _ _ _ _ whole.long c.if-last-first.false
    (all_written (listing m first last) _ (omega (arith, counted.ends, short, c.if-text-place.false)) wrote))
    c.place-2.ensures
    (search rules)
