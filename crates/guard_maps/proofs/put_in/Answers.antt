-- One bit of one byte is set.
use Rattle.std.proofs.Common.{rules}
use Rattle.guard_maps.specs.Lemmas.Maps.{put_in_map}
use Rattle.guard_maps.proofs.put_in.Goals as goal

pub returns : goal.returns
returns c = λ a. put_in_map c.args.map.now c.args.place a (search rules)
