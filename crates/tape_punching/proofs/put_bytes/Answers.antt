-- The writer's words for the same digits.
use Rattle.tape_punching.specs.Lemmas.Punching.{hexes_flat}
use Rattle.tape_punching.proofs.put_bytes.Goals as goal

pub returns : goal.returns
returns c = rw (hexes_flat c.args.bytes.now) c.put_hexes.ensures
