-- One more character at each turn.
use Rattle.std.proofs.Common.{arith, ◌∙◌, sym}
use Rattle.std.proofs.lemmas.List.{get_or-map, length-map}
use Rattle.text_writing.specs.Lemmas.Writing.{one_more}
use Rattle.console.specs.Names.{printed, printed_name}
use Rattle.console.proofs.names.put_printed.Goals as goal

pub loop-byte-preserved : goal.loop-byte-preserved
loop-byte-preserved c =
    let name = c.args.name.now in
    let i = c.loop-byte.byte-index in
    let put = rw (c.printed.ensures ∙ sym (get_or-map printed name i 0 0 (omega arith))) at c.put_byte.ensures in
    one_more (printed_name name) i (omega (arith, length-map name printed)) c.loop-byte.invariant put
