-- Each arm's region is that of its opcodes, and the others have none.
use Rattle.std.proofs.Common.{rules}
use Rattle.std.proofs.Common.{arith}
use Rattle.guard_near.specs.Lemmas.Near.{region_arm, region_none}
use Rattle.guard_near.proofs.region_of.Goals as goal

pub returns-in-0 : goal.returns-in-0
returns-in-0 c = region_arm 0 _ c.in-0.is

pub returns-in-8 : goal.returns-in-8
returns-in-8 c = region_arm 1 _ c.in-8.is

pub returns-in-1 : goal.returns-in-1
returns-in-1 c = region_arm 2 _ c.in-1.is

pub returns-in-17 : goal.returns-in-17
returns-in-17 c = region_arm 3 _ c.in-17.is

pub returns-in-36 : goal.returns-in-36
returns-in-36 c = region_arm 4 _ c.in-36.is

pub returns-in-148 : goal.returns-in-148
returns-in-148 c = region_arm 5 _ c.in-148.is

pub returns-in-5 : goal.returns-in-5
returns-in-5 c = region_arm 6 _ c.in-5.is

pub returns-in-21 : goal.returns-in-21
returns-in-21 c = region_arm 7 _ c.in-21.is

pub returns-in-6 : goal.returns-in-6
returns-in-6 c = region_arm 8 _ c.in-6.is

pub returns-in-22 : goal.returns-in-22
returns-in-22 c = region_arm 9 _ c.in-22.is

pub returns-in-150 : goal.returns-in-150
returns-in-150 c = region_arm 10 _ c.in-150.is

pub returns-in-25 : goal.returns-in-25
returns-in-25 c = region_arm 11 _ c.in-25.is

pub returns-in-44 : goal.returns-in-44
returns-in-44 c = region_arm 12 _ c.in-44.is

pub returns-in-13 : goal.returns-in-13
returns-in-13 c = region_arm 13 _ c.in-13.is

pub returns-in-14 : goal.returns-in-14
returns-in-14 c = region_arm 14 _ c.in-14.is

pub returns-in-29 : goal.returns-in-29
returns-in-29 c = region_arm 15 _ c.in-29.is

pub returns-in-30 : goal.returns-in-30
returns-in-30 c = region_arm 16 _ c.in-30.is

pub returns-in_default : goal.returns-in_default
returns-in_default c = region_none _ (omega arith) (search rules)
