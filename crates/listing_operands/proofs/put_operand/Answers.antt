-- The pattern of the mode, with the numbers that stand after the opcode.
use Rattle.listing_operands.specs.Lemmas.Patterns.{operand_filled}
use Rattle.listing_operands.proofs.put_operand.Goals as goal

pub returns : goal.returns
returns c =
    let s = c.args in
    rw (operand_filled s.mode s.memory.now s.address
    c.plus.ensures c.get_byte-byte.ensures
    c.plus-after.ensures c.get_byte.ensures c.join-word.ensures
    c.branch_target.ensures
    c.pattern.ensures) at c.put_pattern.ensures
