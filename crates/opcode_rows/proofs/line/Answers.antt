-- Each line is its opcode's row of the table; the opcodes without a line have none.
use Rattle.std.proofs.Common.{rules}
use mathlib.Core.Path.{refl}
use native.Mathlib.Omega.{arith}
use Rattle.instruction.specs.Opcodes.{decoded, rows}
use Rattle.opcode_effects.specs.Theorems.Rows.{row}
use Rattle.opcode_rows.specs.Lemmas.Codes.{none_left}
use Rattle.opcode_rows.proofs.line.Goals as goal

pub returns-in-0 : goal.returns-in-0
unfolding decoded rows
returns-in-0 c = row _ _ _ _ _ c.in-0.is refl c.stores.ensures

pub returns-in-1 : goal.returns-in-1
unfolding decoded rows
returns-in-1 c = row _ _ _ _ _ c.in-1.is refl c.keeps.ensures

pub returns-in-5 : goal.returns-in-5
unfolding decoded rows
returns-in-5 c = row _ _ _ _ _ c.in-5.is refl c.keeps-in-5.ensures

pub returns-in-6 : goal.returns-in-6
unfolding decoded rows
returns-in-6 c = row _ _ _ _ _ c.in-6.is refl c.stores-in-6.ensures

pub returns-in-8 : goal.returns-in-8
unfolding decoded rows
returns-in-8 c = row _ _ _ _ _ c.in-8.is refl c.stores-in-8.ensures

pub returns-in-9 : goal.returns-in-9
unfolding decoded rows
returns-in-9 c = row _ _ _ _ _ c.in-9.is refl c.keeps-in-9.ensures

pub returns-in-10 : goal.returns-in-10
unfolding decoded rows
returns-in-10 c = row _ _ _ _ _ c.in-10.is refl c.keeps-in-10.ensures

pub returns-in-13 : goal.returns-in-13
unfolding decoded rows
returns-in-13 c = row _ _ _ _ _ c.in-13.is refl c.keeps-in-13.ensures

pub returns-in-14 : goal.returns-in-14
unfolding decoded rows
returns-in-14 c = row _ _ _ _ _ c.in-14.is refl c.stores-in-14.ensures

pub returns-in-16 : goal.returns-in-16
unfolding decoded rows
returns-in-16 c = row _ _ _ _ _ c.in-16.is refl c.keeps-in-16.ensures

pub returns-in-17 : goal.returns-in-17
unfolding decoded rows
returns-in-17 c = row _ _ _ _ _ c.in-17.is refl c.keeps-in-17.ensures

pub returns-in-21 : goal.returns-in-21
unfolding decoded rows
returns-in-21 c = row _ _ _ _ _ c.in-21.is refl c.keeps-in-21.ensures

pub returns-in-22 : goal.returns-in-22
unfolding decoded rows
returns-in-22 c = row _ _ _ _ _ c.in-22.is refl c.stores-in-22.ensures

pub returns-in-24 : goal.returns-in-24
unfolding decoded rows
returns-in-24 c = row _ _ _ _ _ c.in-24.is refl c.keeps-in-24.ensures

pub returns-in-25 : goal.returns-in-25
unfolding decoded rows
returns-in-25 c = row _ _ _ _ _ c.in-25.is refl c.keeps-in-25.ensures

pub returns-in-29 : goal.returns-in-29
unfolding decoded rows
returns-in-29 c = row _ _ _ _ _ c.in-29.is refl c.keeps-in-29.ensures

pub returns-in-30 : goal.returns-in-30
unfolding decoded rows
returns-in-30 c = row _ _ _ _ _ c.in-30.is refl c.stores-in-30.ensures

pub returns-in-32 : goal.returns-in-32
unfolding decoded rows
returns-in-32 c = row _ _ _ _ _ c.in-32.is refl c.stores-in-32.ensures

pub returns-in-33 : goal.returns-in-33
unfolding decoded rows
returns-in-33 c = row _ _ _ _ _ c.in-33.is refl c.keeps-in-33.ensures

pub returns-in-36 : goal.returns-in-36
unfolding decoded rows
returns-in-36 c = row _ _ _ _ _ c.in-36.is refl c.keeps-in-36.ensures

pub returns-in-37 : goal.returns-in-37
unfolding decoded rows
returns-in-37 c = row _ _ _ _ _ c.in-37.is refl c.keeps-in-37.ensures

pub returns-in-38 : goal.returns-in-38
unfolding decoded rows
returns-in-38 c = row _ _ _ _ _ c.in-38.is refl c.stores-in-38.ensures

pub returns-in-40 : goal.returns-in-40
unfolding decoded rows
returns-in-40 c = row _ _ _ _ _ c.in-40.is refl c.keeps-in-40.ensures

pub returns-in-41 : goal.returns-in-41
unfolding decoded rows
returns-in-41 c = row _ _ _ _ _ c.in-41.is refl c.keeps-in-41.ensures

pub returns-in-42 : goal.returns-in-42
unfolding decoded rows
returns-in-42 c = row _ _ _ _ _ c.in-42.is refl c.keeps-in-42.ensures

pub returns-in-44 : goal.returns-in-44
unfolding decoded rows
returns-in-44 c = row _ _ _ _ _ c.in-44.is refl c.keeps-in-44.ensures

pub returns-in-45 : goal.returns-in-45
unfolding decoded rows
returns-in-45 c = row _ _ _ _ _ c.in-45.is refl c.keeps-in-45.ensures

pub returns-in-46 : goal.returns-in-46
unfolding decoded rows
returns-in-46 c = row _ _ _ _ _ c.in-46.is refl c.stores-in-46.ensures

pub returns-in-48 : goal.returns-in-48
unfolding decoded rows
returns-in-48 c = row _ _ _ _ _ c.in-48.is refl c.keeps-in-48.ensures

pub returns-in-49 : goal.returns-in-49
unfolding decoded rows
returns-in-49 c = row _ _ _ _ _ c.in-49.is refl c.keeps-in-49.ensures

pub returns-in-53 : goal.returns-in-53
unfolding decoded rows
returns-in-53 c = row _ _ _ _ _ c.in-53.is refl c.keeps-in-53.ensures

pub returns-in-54 : goal.returns-in-54
unfolding decoded rows
returns-in-54 c = row _ _ _ _ _ c.in-54.is refl c.stores-in-54.ensures

pub returns-in-56 : goal.returns-in-56
unfolding decoded rows
returns-in-56 c = row _ _ _ _ _ c.in-56.is refl c.keeps-in-56.ensures

pub returns-in-57 : goal.returns-in-57
unfolding decoded rows
returns-in-57 c = row _ _ _ _ _ c.in-57.is refl c.keeps-in-57.ensures

pub returns-in-61 : goal.returns-in-61
unfolding decoded rows
returns-in-61 c = row _ _ _ _ _ c.in-61.is refl c.keeps-in-61.ensures

pub returns-in-62 : goal.returns-in-62
unfolding decoded rows
returns-in-62 c = row _ _ _ _ _ c.in-62.is refl c.stores-in-62.ensures

pub returns-in-64 : goal.returns-in-64
unfolding decoded rows
returns-in-64 c = row _ _ _ _ _ c.in-64.is refl c.keeps-in-64.ensures

pub returns-in-65 : goal.returns-in-65
unfolding decoded rows
returns-in-65 c = row _ _ _ _ _ c.in-65.is refl c.keeps-in-65.ensures

pub returns-in-69 : goal.returns-in-69
unfolding decoded rows
returns-in-69 c = row _ _ _ _ _ c.in-69.is refl c.keeps-in-69.ensures

pub returns-in-70 : goal.returns-in-70
unfolding decoded rows
returns-in-70 c = row _ _ _ _ _ c.in-70.is refl c.stores-in-70.ensures

pub returns-in-72 : goal.returns-in-72
unfolding decoded rows
returns-in-72 c = row _ _ _ _ _ c.in-72.is refl c.stores-in-72.ensures

pub returns-in-73 : goal.returns-in-73
unfolding decoded rows
returns-in-73 c = row _ _ _ _ _ c.in-73.is refl c.keeps-in-73.ensures

pub returns-in-74 : goal.returns-in-74
unfolding decoded rows
returns-in-74 c = row _ _ _ _ _ c.in-74.is refl c.keeps-in-74.ensures

pub returns-in-76 : goal.returns-in-76
unfolding decoded rows
returns-in-76 c = row _ _ _ _ _ c.in-76.is refl c.keeps-in-76.ensures

pub returns-in-77 : goal.returns-in-77
unfolding decoded rows
returns-in-77 c = row _ _ _ _ _ c.in-77.is refl c.keeps-in-77.ensures

pub returns-in-78 : goal.returns-in-78
unfolding decoded rows
returns-in-78 c = row _ _ _ _ _ c.in-78.is refl c.stores-in-78.ensures

pub returns-in-80 : goal.returns-in-80
unfolding decoded rows
returns-in-80 c = row _ _ _ _ _ c.in-80.is refl c.keeps-in-80.ensures

pub returns-in-81 : goal.returns-in-81
unfolding decoded rows
returns-in-81 c = row _ _ _ _ _ c.in-81.is refl c.keeps-in-81.ensures

pub returns-in-85 : goal.returns-in-85
unfolding decoded rows
returns-in-85 c = row _ _ _ _ _ c.in-85.is refl c.keeps-in-85.ensures

pub returns-in-86 : goal.returns-in-86
unfolding decoded rows
returns-in-86 c = row _ _ _ _ _ c.in-86.is refl c.stores-in-86.ensures

pub returns-in-88 : goal.returns-in-88
unfolding decoded rows
returns-in-88 c = row _ _ _ _ _ c.in-88.is refl c.keeps-in-88.ensures

pub returns-in-89 : goal.returns-in-89
unfolding decoded rows
returns-in-89 c = row _ _ _ _ _ c.in-89.is refl c.keeps-in-89.ensures

pub returns-in-93 : goal.returns-in-93
unfolding decoded rows
returns-in-93 c = row _ _ _ _ _ c.in-93.is refl c.keeps-in-93.ensures

pub returns-in-94 : goal.returns-in-94
unfolding decoded rows
returns-in-94 c = row _ _ _ _ _ c.in-94.is refl c.stores-in-94.ensures

pub returns-in-96 : goal.returns-in-96
unfolding decoded rows
returns-in-96 c = row _ _ _ _ _ c.in-96.is refl c.keeps-in-96.ensures

pub returns-in-97 : goal.returns-in-97
unfolding decoded rows
returns-in-97 c = row _ _ _ _ _ c.in-97.is refl c.adds.ensures

pub returns-in-101 : goal.returns-in-101
unfolding decoded rows
returns-in-101 c = row _ _ _ _ _ c.in-101.is refl c.adds-in-101.ensures

pub returns-in-102 : goal.returns-in-102
unfolding decoded rows
returns-in-102 c = row _ _ _ _ _ c.in-102.is refl c.stores-in-102.ensures

pub returns-in-104 : goal.returns-in-104
unfolding decoded rows
returns-in-104 c = row _ _ _ _ _ c.in-104.is refl c.keeps-in-104.ensures

pub returns-in-105 : goal.returns-in-105
unfolding decoded rows
returns-in-105 c = row _ _ _ _ _ c.in-105.is refl c.adds-in-105.ensures

pub returns-in-106 : goal.returns-in-106
unfolding decoded rows
returns-in-106 c = row _ _ _ _ _ c.in-106.is refl c.keeps-in-106.ensures

pub returns-in-108 : goal.returns-in-108
unfolding decoded rows
returns-in-108 c = row _ _ _ _ _ c.in-108.is refl c.keeps-in-108.ensures

pub returns-in-109 : goal.returns-in-109
unfolding decoded rows
returns-in-109 c = row _ _ _ _ _ c.in-109.is refl c.adds-in-109.ensures

pub returns-in-110 : goal.returns-in-110
unfolding decoded rows
returns-in-110 c = row _ _ _ _ _ c.in-110.is refl c.stores-in-110.ensures

pub returns-in-112 : goal.returns-in-112
unfolding decoded rows
returns-in-112 c = row _ _ _ _ _ c.in-112.is refl c.keeps-in-112.ensures

pub returns-in-113 : goal.returns-in-113
unfolding decoded rows
returns-in-113 c = row _ _ _ _ _ c.in-113.is refl c.adds-in-113.ensures

pub returns-in-117 : goal.returns-in-117
unfolding decoded rows
returns-in-117 c = row _ _ _ _ _ c.in-117.is refl c.adds-in-117.ensures

pub returns-in-118 : goal.returns-in-118
unfolding decoded rows
returns-in-118 c = row _ _ _ _ _ c.in-118.is refl c.stores-in-118.ensures

pub returns-in-120 : goal.returns-in-120
unfolding decoded rows
returns-in-120 c = row _ _ _ _ _ c.in-120.is refl c.keeps-in-120.ensures

pub returns-in-121 : goal.returns-in-121
unfolding decoded rows
returns-in-121 c = row _ _ _ _ _ c.in-121.is refl c.adds-in-121.ensures

pub returns-in-125 : goal.returns-in-125
unfolding decoded rows
returns-in-125 c = row _ _ _ _ _ c.in-125.is refl c.adds-in-125.ensures

pub returns-in-126 : goal.returns-in-126
unfolding decoded rows
returns-in-126 c = row _ _ _ _ _ c.in-126.is refl c.stores-in-126.ensures

pub returns-in-129 : goal.returns-in-129
unfolding decoded rows
returns-in-129 c = row _ _ _ _ _ c.in-129.is refl c.stores-in-129.ensures

pub returns-in-132 : goal.returns-in-132
unfolding decoded rows
returns-in-132 c = row _ _ _ _ _ c.in-132.is refl c.stores-in-132.ensures

pub returns-in-133 : goal.returns-in-133
unfolding decoded rows
returns-in-133 c = row _ _ _ _ _ c.in-133.is refl c.stores-in-133.ensures

pub returns-in-134 : goal.returns-in-134
unfolding decoded rows
returns-in-134 c = row _ _ _ _ _ c.in-134.is refl c.stores-in-134.ensures

pub returns-in-136 : goal.returns-in-136
unfolding decoded rows
returns-in-136 c = row _ _ _ _ _ c.in-136.is refl c.keeps-in-136.ensures

pub returns-in-138 : goal.returns-in-138
unfolding decoded rows
returns-in-138 c = row _ _ _ _ _ c.in-138.is refl c.keeps-in-138.ensures

pub returns-in-140 : goal.returns-in-140
unfolding decoded rows
returns-in-140 c = row _ _ _ _ _ c.in-140.is refl c.stores-in-140.ensures

pub returns-in-141 : goal.returns-in-141
unfolding decoded rows
returns-in-141 c = row _ _ _ _ _ c.in-141.is refl c.stores-in-141.ensures

pub returns-in-142 : goal.returns-in-142
unfolding decoded rows
returns-in-142 c = row _ _ _ _ _ c.in-142.is refl c.stores-in-142.ensures

pub returns-in-144 : goal.returns-in-144
unfolding decoded rows
returns-in-144 c = row _ _ _ _ _ c.in-144.is refl c.keeps-in-144.ensures

pub returns-in-145 : goal.returns-in-145
unfolding decoded rows
returns-in-145 c = row _ _ _ _ _ c.in-145.is refl c.stores-in-145.ensures

pub returns-in-148 : goal.returns-in-148
unfolding decoded rows
returns-in-148 c = row _ _ _ _ _ c.in-148.is refl c.stores-in-148.ensures

pub returns-in-149 : goal.returns-in-149
unfolding decoded rows
returns-in-149 c = row _ _ _ _ _ c.in-149.is refl c.stores-in-149.ensures

pub returns-in-150 : goal.returns-in-150
unfolding decoded rows
returns-in-150 c = row _ _ _ _ _ c.in-150.is refl c.stores-in-150.ensures

pub returns-in-152 : goal.returns-in-152
unfolding decoded rows
returns-in-152 c = row _ _ _ _ _ c.in-152.is refl c.keeps-in-152.ensures

pub returns-in-153 : goal.returns-in-153
unfolding decoded rows
returns-in-153 c = row _ _ _ _ _ c.in-153.is refl c.stores-in-153.ensures

pub returns-in-154 : goal.returns-in-154
unfolding decoded rows
returns-in-154 c = row _ _ _ _ _ c.in-154.is refl c.keeps-in-154.ensures

pub returns-in-157 : goal.returns-in-157
unfolding decoded rows
returns-in-157 c = row _ _ _ _ _ c.in-157.is refl c.stores-in-157.ensures

pub returns-in-160 : goal.returns-in-160
unfolding decoded rows
returns-in-160 c = row _ _ _ _ _ c.in-160.is refl c.keeps-in-160.ensures

pub returns-in-161 : goal.returns-in-161
unfolding decoded rows
returns-in-161 c = row _ _ _ _ _ c.in-161.is refl c.keeps-in-161.ensures

pub returns-in-162 : goal.returns-in-162
unfolding decoded rows
returns-in-162 c = row _ _ _ _ _ c.in-162.is refl c.keeps-in-162.ensures

pub returns-in-164 : goal.returns-in-164
unfolding decoded rows
returns-in-164 c = row _ _ _ _ _ c.in-164.is refl c.keeps-in-164.ensures

pub returns-in-165 : goal.returns-in-165
unfolding decoded rows
returns-in-165 c = row _ _ _ _ _ c.in-165.is refl c.keeps-in-165.ensures

pub returns-in-166 : goal.returns-in-166
unfolding decoded rows
returns-in-166 c = row _ _ _ _ _ c.in-166.is refl c.keeps-in-166.ensures

pub returns-in-168 : goal.returns-in-168
unfolding decoded rows
returns-in-168 c = row _ _ _ _ _ c.in-168.is refl c.keeps-in-168.ensures

pub returns-in-169 : goal.returns-in-169
unfolding decoded rows
returns-in-169 c = row _ _ _ _ _ c.in-169.is refl c.keeps-in-169.ensures

pub returns-in-170 : goal.returns-in-170
unfolding decoded rows
returns-in-170 c = row _ _ _ _ _ c.in-170.is refl c.keeps-in-170.ensures

pub returns-in-172 : goal.returns-in-172
unfolding decoded rows
returns-in-172 c = row _ _ _ _ _ c.in-172.is refl c.keeps-in-172.ensures

pub returns-in-173 : goal.returns-in-173
unfolding decoded rows
returns-in-173 c = row _ _ _ _ _ c.in-173.is refl c.keeps-in-173.ensures

pub returns-in-174 : goal.returns-in-174
unfolding decoded rows
returns-in-174 c = row _ _ _ _ _ c.in-174.is refl c.keeps-in-174.ensures

pub returns-in-176 : goal.returns-in-176
unfolding decoded rows
returns-in-176 c = row _ _ _ _ _ c.in-176.is refl c.keeps-in-176.ensures

pub returns-in-177 : goal.returns-in-177
unfolding decoded rows
returns-in-177 c = row _ _ _ _ _ c.in-177.is refl c.keeps-in-177.ensures

pub returns-in-180 : goal.returns-in-180
unfolding decoded rows
returns-in-180 c = row _ _ _ _ _ c.in-180.is refl c.keeps-in-180.ensures

pub returns-in-181 : goal.returns-in-181
unfolding decoded rows
returns-in-181 c = row _ _ _ _ _ c.in-181.is refl c.keeps-in-181.ensures

pub returns-in-182 : goal.returns-in-182
unfolding decoded rows
returns-in-182 c = row _ _ _ _ _ c.in-182.is refl c.keeps-in-182.ensures

pub returns-in-184 : goal.returns-in-184
unfolding decoded rows
returns-in-184 c = row _ _ _ _ _ c.in-184.is refl c.keeps-in-184.ensures

pub returns-in-185 : goal.returns-in-185
unfolding decoded rows
returns-in-185 c = row _ _ _ _ _ c.in-185.is refl c.keeps-in-185.ensures

pub returns-in-186 : goal.returns-in-186
unfolding decoded rows
returns-in-186 c = row _ _ _ _ _ c.in-186.is refl c.keeps-in-186.ensures

pub returns-in-188 : goal.returns-in-188
unfolding decoded rows
returns-in-188 c = row _ _ _ _ _ c.in-188.is refl c.keeps-in-188.ensures

pub returns-in-189 : goal.returns-in-189
unfolding decoded rows
returns-in-189 c = row _ _ _ _ _ c.in-189.is refl c.keeps-in-189.ensures

pub returns-in-190 : goal.returns-in-190
unfolding decoded rows
returns-in-190 c = row _ _ _ _ _ c.in-190.is refl c.keeps-in-190.ensures

pub returns-in-192 : goal.returns-in-192
unfolding decoded rows
returns-in-192 c = row _ _ _ _ _ c.in-192.is refl c.keeps-in-192.ensures

pub returns-in-193 : goal.returns-in-193
unfolding decoded rows
returns-in-193 c = row _ _ _ _ _ c.in-193.is refl c.keeps-in-193.ensures

pub returns-in-196 : goal.returns-in-196
unfolding decoded rows
returns-in-196 c = row _ _ _ _ _ c.in-196.is refl c.keeps-in-196.ensures

pub returns-in-197 : goal.returns-in-197
unfolding decoded rows
returns-in-197 c = row _ _ _ _ _ c.in-197.is refl c.keeps-in-197.ensures

pub returns-in-198 : goal.returns-in-198
unfolding decoded rows
returns-in-198 c = row _ _ _ _ _ c.in-198.is refl c.stores-in-198.ensures

pub returns-in-200 : goal.returns-in-200
unfolding decoded rows
returns-in-200 c = row _ _ _ _ _ c.in-200.is refl c.keeps-in-200.ensures

pub returns-in-201 : goal.returns-in-201
unfolding decoded rows
returns-in-201 c = row _ _ _ _ _ c.in-201.is refl c.keeps-in-201.ensures

pub returns-in-202 : goal.returns-in-202
unfolding decoded rows
returns-in-202 c = row _ _ _ _ _ c.in-202.is refl c.keeps-in-202.ensures

pub returns-in-204 : goal.returns-in-204
unfolding decoded rows
returns-in-204 c = row _ _ _ _ _ c.in-204.is refl c.keeps-in-204.ensures

pub returns-in-205 : goal.returns-in-205
unfolding decoded rows
returns-in-205 c = row _ _ _ _ _ c.in-205.is refl c.keeps-in-205.ensures

pub returns-in-206 : goal.returns-in-206
unfolding decoded rows
returns-in-206 c = row _ _ _ _ _ c.in-206.is refl c.stores-in-206.ensures

pub returns-in-208 : goal.returns-in-208
unfolding decoded rows
returns-in-208 c = row _ _ _ _ _ c.in-208.is refl c.keeps-in-208.ensures

pub returns-in-209 : goal.returns-in-209
unfolding decoded rows
returns-in-209 c = row _ _ _ _ _ c.in-209.is refl c.keeps-in-209.ensures

pub returns-in-213 : goal.returns-in-213
unfolding decoded rows
returns-in-213 c = row _ _ _ _ _ c.in-213.is refl c.keeps-in-213.ensures

pub returns-in-214 : goal.returns-in-214
unfolding decoded rows
returns-in-214 c = row _ _ _ _ _ c.in-214.is refl c.stores-in-214.ensures

pub returns-in-216 : goal.returns-in-216
unfolding decoded rows
returns-in-216 c = row _ _ _ _ _ c.in-216.is refl c.keeps-in-216.ensures

pub returns-in-217 : goal.returns-in-217
unfolding decoded rows
returns-in-217 c = row _ _ _ _ _ c.in-217.is refl c.keeps-in-217.ensures

pub returns-in-221 : goal.returns-in-221
unfolding decoded rows
returns-in-221 c = row _ _ _ _ _ c.in-221.is refl c.keeps-in-221.ensures

pub returns-in-222 : goal.returns-in-222
unfolding decoded rows
returns-in-222 c = row _ _ _ _ _ c.in-222.is refl c.stores-in-222.ensures

pub returns-in-224 : goal.returns-in-224
unfolding decoded rows
returns-in-224 c = row _ _ _ _ _ c.in-224.is refl c.keeps-in-224.ensures

pub returns-in-225 : goal.returns-in-225
unfolding decoded rows
returns-in-225 c = row _ _ _ _ _ c.in-225.is refl c.subtracts.ensures

pub returns-in-228 : goal.returns-in-228
unfolding decoded rows
returns-in-228 c = row _ _ _ _ _ c.in-228.is refl c.keeps-in-228.ensures

pub returns-in-229 : goal.returns-in-229
unfolding decoded rows
returns-in-229 c = row _ _ _ _ _ c.in-229.is refl c.subtracts-in-229.ensures

pub returns-in-230 : goal.returns-in-230
unfolding decoded rows
returns-in-230 c = row _ _ _ _ _ c.in-230.is refl c.stores-in-230.ensures

pub returns-in-232 : goal.returns-in-232
unfolding decoded rows
returns-in-232 c = row _ _ _ _ _ c.in-232.is refl c.keeps-in-232.ensures

pub returns-in-233 : goal.returns-in-233
unfolding decoded rows
returns-in-233 c = row _ _ _ _ _ c.in-233.is refl c.subtracts-in-233.ensures

pub returns-in-234 : goal.returns-in-234
unfolding decoded rows
returns-in-234 c = row _ _ _ _ _ c.in-234.is refl c.keeps-in-234.ensures

pub returns-in-236 : goal.returns-in-236
unfolding decoded rows
returns-in-236 c = row _ _ _ _ _ c.in-236.is refl c.keeps-in-236.ensures

pub returns-in-237 : goal.returns-in-237
unfolding decoded rows
returns-in-237 c = row _ _ _ _ _ c.in-237.is refl c.subtracts-in-237.ensures

pub returns-in-238 : goal.returns-in-238
unfolding decoded rows
returns-in-238 c = row _ _ _ _ _ c.in-238.is refl c.stores-in-238.ensures

pub returns-in-240 : goal.returns-in-240
unfolding decoded rows
returns-in-240 c = row _ _ _ _ _ c.in-240.is refl c.keeps-in-240.ensures

pub returns-in-241 : goal.returns-in-241
unfolding decoded rows
returns-in-241 c = row _ _ _ _ _ c.in-241.is refl c.subtracts-in-241.ensures

pub returns-in-245 : goal.returns-in-245
unfolding decoded rows
returns-in-245 c = row _ _ _ _ _ c.in-245.is refl c.subtracts-in-245.ensures

pub returns-in-246 : goal.returns-in-246
unfolding decoded rows
returns-in-246 c = row _ _ _ _ _ c.in-246.is refl c.stores-in-246.ensures

pub returns-in-248 : goal.returns-in-248
unfolding decoded rows
returns-in-248 c = row _ _ _ _ _ c.in-248.is refl c.keeps-in-248.ensures

pub returns-in-249 : goal.returns-in-249
unfolding decoded rows
returns-in-249 c = row _ _ _ _ _ c.in-249.is refl c.subtracts-in-249.ensures

pub returns-in-253 : goal.returns-in-253
unfolding decoded rows
returns-in-253 c = row _ _ _ _ _ c.in-253.is refl c.subtracts-in-253.ensures

pub returns-in-254 : goal.returns-in-254
unfolding decoded rows
returns-in-254 c = row _ _ _ _ _ c.in-254.is refl c.stores-in-254.ensures

pub returns-in_default : goal.returns-in_default
unfolding decoded rows
returns-in_default c = none_left c.args.opcode _ _ (omega arith) (search rules)
