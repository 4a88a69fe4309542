-- Each arm's way is that of its opcodes, and the others have none.
use Rattle.std.proofs.Common.{rules}
use Rattle.std.proofs.Common.{arith}
use Rattle.footprint.specs.Lemmas.Ways.{reads_arm, reads_none}
use Rattle.footprint.proofs.ways.reading_way.Goals as goal

pub returns-in-0 : goal.returns-in-0
returns-in-0 c = reads_arm 0 _ c.in-0.is

pub returns-in-16 : goal.returns-in-16
returns-in-16 c = reads_arm 1 _ c.in-16.is

pub returns-in-32 : goal.returns-in-32
returns-in-32 c = reads_arm 2 _ c.in-32.is

pub returns-in-64 : goal.returns-in-64
returns-in-64 c = reads_arm 3 _ c.in-64.is

pub returns-in-96 : goal.returns-in-96
returns-in-96 c = reads_arm 4 _ c.in-96.is

pub returns-in-1 : goal.returns-in-1
returns-in-1 c = reads_arm 5 _ c.in-1.is

pub returns-in-17 : goal.returns-in-17
returns-in-17 c = reads_arm 6 _ c.in-17.is

pub returns-in-129 : goal.returns-in-129
returns-in-129 c = reads_arm 7 _ c.in-129.is

pub returns-in-145 : goal.returns-in-145
returns-in-145 c = reads_arm 8 _ c.in-145.is

pub returns-in-162 : goal.returns-in-162
returns-in-162 c = reads_arm 9 _ c.in-162.is

pub returns-in-36 : goal.returns-in-36
returns-in-36 c = reads_arm 10 _ c.in-36.is

pub returns-in-132 : goal.returns-in-132
returns-in-132 c = reads_arm 11 _ c.in-132.is

pub returns-in-180 : goal.returns-in-180
returns-in-180 c = reads_arm 12 _ c.in-180.is

pub returns-in-5 : goal.returns-in-5
returns-in-5 c = reads_arm 13 _ c.in-5.is

pub returns-in-21 : goal.returns-in-21
returns-in-21 c = reads_arm 14 _ c.in-21.is

pub returns-in-133 : goal.returns-in-133
returns-in-133 c = reads_arm 15 _ c.in-133.is

pub returns-in-6 : goal.returns-in-6
returns-in-6 c = reads_arm 16 _ c.in-6.is

pub returns-in-22 : goal.returns-in-22
returns-in-22 c = reads_arm 17 _ c.in-22.is

pub returns-in-134 : goal.returns-in-134
returns-in-134 c = reads_arm 18 _ c.in-134.is

pub returns-in-182 : goal.returns-in-182
returns-in-182 c = reads_arm 19 _ c.in-182.is

pub returns-in-40 : goal.returns-in-40
returns-in-40 c = reads_arm 20 _ c.in-40.is

pub returns-in-9 : goal.returns-in-9
returns-in-9 c = reads_arm 21 _ c.in-9.is

pub returns-in-25 : goal.returns-in-25
returns-in-25 c = reads_arm 22 _ c.in-25.is

pub returns-in-153 : goal.returns-in-153
returns-in-153 c = reads_arm 23 _ c.in-153.is

pub returns-in-44 : goal.returns-in-44
returns-in-44 c = reads_arm 24 _ c.in-44.is

pub returns-in-76 : goal.returns-in-76
returns-in-76 c = reads_arm 25 _ c.in-76.is

pub returns-in-108 : goal.returns-in-108
returns-in-108 c = reads_arm 26 _ c.in-108.is

pub returns-in-188 : goal.returns-in-188
returns-in-188 c = reads_arm 27 _ c.in-188.is

pub returns-in-13 : goal.returns-in-13
returns-in-13 c = reads_arm 28 _ c.in-13.is

pub returns-in-29 : goal.returns-in-29
returns-in-29 c = reads_arm 29 _ c.in-29.is

pub returns-in-141 : goal.returns-in-141
returns-in-141 c = reads_arm 30 _ c.in-141.is

pub returns-in-14 : goal.returns-in-14
returns-in-14 c = reads_arm 31 _ c.in-14.is

pub returns-in-30 : goal.returns-in-30
returns-in-30 c = reads_arm 32 _ c.in-30.is

pub returns-in-142 : goal.returns-in-142
returns-in-142 c = reads_arm 33 _ c.in-142.is

pub returns-in-190 : goal.returns-in-190
returns-in-190 c = reads_arm 34 _ c.in-190.is

pub returns-in_default : goal.returns-in_default
returns-in_default c = reads_none _ (omega arith) (search rules)
