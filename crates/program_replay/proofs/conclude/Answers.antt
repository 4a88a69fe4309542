-- The line fits its buffer.
use Rattle.std.proofs.Common.{arith, sym, length-take-le}
use Rattle.text_writing.specs.Lemmas.Texts.{decimal_length}
use Rattle.program_replay.proofs.conclude.Goals as goal

pub slice_bounds-text-end : goal.slice_bounds-text-end
slice_bounds-text-end c =
    omega (
      arith,
      c.place-size.ensures,
      c.put_text-2.ensures.wrote.ends,
      c.put_decimal-2.ensures.wrote.ends,
      c.put_text.ensures.wrote.ends,
      c.put_decimal.ensures.wrote.ends,
      c.new-out.ensures.begins,
      decimal_length 19 c.args.tally.lines (omega (arith, c)),
      decimal_length 19 c.args.tally.differ (omega (arith, c)),
    )

pub slice_bounds-write_output-end : goal.slice_bounds-write_output-end
slice_bounds-write_output-end c =
    sym (length-take-le _ _ (omega (
      arith,
      c.place-size.ensures,
      c.put_text-2.ensures.wrote.ends,
      c.put_decimal-2.ensures.wrote.ends,
      c.put_text.ensures.wrote.ends,
      c.put_decimal.ensures.wrote.ends,
      c.new-out.ensures.begins,
      decimal_length 19 c.args.tally.lines (omega (arith, c)),
      decimal_length 19 c.args.tally.differ (omega (arith, c)),
    )))
