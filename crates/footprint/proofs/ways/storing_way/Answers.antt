-- Each arm's way is that of its opcodes, and the others have none.
use Rattle.std.proofs.Common.{rules}
use Rattle.std.proofs.Common.{arith}
use Rattle.footprint.specs.Lemmas.Ways.{stores_arm, stores_none}
use Rattle.footprint.proofs.ways.storing_way.Goals as goal

pub returns-in-0 : goal.returns-in-0
returns-in-0 c = stores_arm 0 _ c.in-0.is

pub returns-in-32 : goal.returns-in-32
returns-in-32 c = stores_arm 1 _ c.in-32.is

pub returns-in-129 : goal.returns-in-129
returns-in-129 c = stores_arm 2 _ c.in-129.is

pub returns-in-145 : goal.returns-in-145
returns-in-145 c = stores_arm 3 _ c.in-145.is

pub returns-in-132 : goal.returns-in-132
returns-in-132 c = stores_arm 4 _ c.in-132.is

pub returns-in-148 : goal.returns-in-148
returns-in-148 c = stores_arm 5 _ c.in-148.is

pub returns-in-133 : goal.returns-in-133
returns-in-133 c = stores_arm 6 _ c.in-133.is

pub returns-in-149 : goal.returns-in-149
returns-in-149 c = stores_arm 7 _ c.in-149.is

pub returns-in-6 : goal.returns-in-6
returns-in-6 c = stores_arm 8 _ c.in-6.is

pub returns-in-22 : goal.returns-in-22
returns-in-22 c = stores_arm 9 _ c.in-22.is

pub returns-in-150 : goal.returns-in-150
returns-in-150 c = stores_arm 10 _ c.in-150.is

pub returns-in-8 : goal.returns-in-8
returns-in-8 c = stores_arm 11 _ c.in-8.is

pub returns-in-153 : goal.returns-in-153
returns-in-153 c = stores_arm 12 _ c.in-153.is

pub returns-in-140 : goal.returns-in-140
returns-in-140 c = stores_arm 13 _ c.in-140.is

pub returns-in-141 : goal.returns-in-141
returns-in-141 c = stores_arm 14 _ c.in-141.is

pub returns-in-157 : goal.returns-in-157
returns-in-157 c = stores_arm 15 _ c.in-157.is

pub returns-in-14 : goal.returns-in-14
returns-in-14 c = stores_arm 16 _ c.in-14.is

pub returns-in-30 : goal.returns-in-30
returns-in-30 c = stores_arm 17 _ c.in-30.is

pub returns-in_default : goal.returns-in_default
returns-in_default c = stores_none _ (omega arith) (search rules)
