-- The name, and the operand if the opcode has one.
use Rattle.std.proofs.Common.{sym, ◌∙◌}
use Rattle.text_writing.specs.Lemmas.Writing.{after}
use Rattle.listing.specs.Lemmas.Lines.{words_defined}
use Rattle.listing.proofs.line.put_words.Goals as goal

pub returns-in-Some : goal.returns-in-Some
returns-in-Some c =
    let s = c.args in
    rw (words_defined s.memory.now s.address c.name_of.ensures (sym c.decode.ensures ∙ c.in-Some.is)) at (after c.put_text.ensures c.put_operand.ensures)
