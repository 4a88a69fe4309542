-- Each arm gives what stands at its number in the list; past the last arm NOP stands for all.
use Rattle.std.proofs.Common.{◌≡◌, ℕ, ◌<◌, ◌≤◌, cond, List, [], ◌∷◌, refl, sym, arith}
use Rattle.std.proofs.Math.Decide.{dec_lt}
use Rattle.std.proofs.Math.ListN.{get_or-eq_default}
use Rattle.laws.specs.Lemmas.Agree.{agree}
use Rattle.laws.specs.Lemmas.LastArm.{NoneOf, among, not_among}
use Rattle.instruction.specs.declared.Instruction.TheVariants.{Internal}
use Rattle.instruction.specs.declared.InternalOperation.TheVariants.{NOP}
use Rattle.opcode_numbers.specs.Inner.Operations.{operations, operation_at}
use Rattle.opcode_numbers.proofs.operation_at.Goals as goal

-- the numbers that have an arm, from the last on
abbrev numbers : List ℕ
numbers =
    55 ∷ 54 ∷ 53 ∷ 52 ∷ 51 ∷ 50 ∷ 49 ∷ 48 ∷ 47 ∷ 46 ∷ 45 ∷ 44 ∷ 43 ∷ 42 ∷ 41 ∷ 40 ∷ 39 ∷ 38 ∷ 37 ∷ 36 ∷ 35 ∷ 34
    ∷ 33 ∷ 32 ∷ 31 ∷ 30 ∷ 29 ∷ 28 ∷ 27 ∷ 26 ∷ 25 ∷ 24 ∷ 23 ∷ 22 ∷ 21 ∷ 20 ∷ 19 ∷ 18 ∷ 17 ∷ 16 ∷ 15 ∷ 14 ∷ 13 ∷ 12
    ∷ 11 ∷ 10 ∷ 9 ∷ 8 ∷ 7 ∷ 6 ∷ 5 ∷ 4 ∷ 3 ∷ 2 ∷ 1 ∷ 0
    ∷ []

beyond : (n : ℕ) → NoneOf n numbers → Internal NOP ≡ operation_at n
unfolding operation_at operations
beyond n out = by_size (dec_lt n 56)
  where
    by_size : Dec (n < 56) → Internal NOP ≡ operation_at n
    by_size (yes l) =
        sym (rw (not_among n numbers out) at (agree (λ k. cond (among k numbers) (Internal NOP) (operation_at k)) (λ k. Internal NOP) 56 refl n l))
    by_size (no g) = let past : 56 ≤ n = omega arith in sym (get_or-eq_default operations (Internal NOP) past)

pub returns-in_default : goal.returns-in_default
returns-in_default c = beyond _ (omega arith)
