-- One field after the other.
use Rattle.text_writing.specs.Lemmas.Writing.{after}
use Rattle.listing.proofs.line.put_instruction.Goals as goal

pub returns : goal.returns
returns c =
    let byte = c.get_byte-opcode.ensures in
    let bytes = rw (c.line_size.ensures.value, byte) at c.put_bytes.ensures in
    let words = rw byte at c.put_words.ensures in
    after (after c.put_hex4.ensures bytes) (after c.put_byte.ensures words)
