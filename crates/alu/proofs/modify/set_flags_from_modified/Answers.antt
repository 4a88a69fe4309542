-- C is set to the bit shifted out, and then N and Z of the modified byte.
use Rattle.manual.specs.Shifting.{modified_flags}
use Rattle.alu.proofs.modify.set_flags_from_modified.Goals as goal

pub returns : goal.returns
unfolding modified_flags
returns c =
    rw (
      c.set_flags_from_u8.ensures,
      c.modify_byte.ensures,
      c.set_carry-carried.ensures,
      c.carry_after.ensures,
    )
