-- One part after the other; a number of 64 bits has twenty digits.
use Rattle.std.proofs.Common.{◌++◌, arith, length-append}
use Rattle.laws.specs.Characters.{characters}
use Rattle.text_writing.specs.Numerals.{decimal}
use Rattle.text_writing.specs.Lemmas.Texts.{decimal_length}
use Rattle.text_writing.specs.Lemmas.Writing.{after}
use Rattle.trace_text.proofs.finding.put_bad.Goals as goal

pub returns : goal.returns
returns c =
    let wrote = after (after c.put_text.ensures c.put_decimal.ensures) c.put_text-2.ensures in
    let head = characters "refused: line " ++ decimal c.args.line in
    record { wrote = wrote; upper_bound = omega (arith, wrote.wrote.ends, length-append head c.args.why.now, decimal_length 19 c.args.line (omega (arith, c))) }
