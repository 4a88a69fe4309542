-- One field after the other.
use Rattle.text_writing.specs.Lemmas.Writing.{after}
use Rattle.trace_fields.specs.Fields.{machine_fields}
use Rattle.trace_fields.proofs.put_machine.Goals as goal

pub returns : goal.returns
unfolding machine_fields
returns c = after (after c.put_decimal.ensures c.put_spaced_hex4.ensures) c.put_registers.ensures
