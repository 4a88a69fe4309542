-- The memory is blanked, and the steps are one part.
use Rattle.std.proofs.Common.{◌≡◌, ◌-◌, arith}
use Rattle.guard_maps.specs.Lemmas.Maps.{empty_map}
use Rattle.guard.specs.Lemmas.Blanking.{extract_whole}
use Rattle.guard.proofs.extract.extract.Goals as goal

pub returns : goal.returns
returns c =
    let all : c.args.bound - 0 ≡ c.args.bound = omega arith in
    rw (extract_whole _ _ _ _ _ _ c.in-Some.ensures.cases.long) (rw (c.blank.ensures, c.in-Some.ensures.cases.same, all, empty_map c.empty_map.result 8192 c.empty_map.ensures) at c.guarded_part.ensures)
