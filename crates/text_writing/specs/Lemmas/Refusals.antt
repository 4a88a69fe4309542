-- Of a refusal the number says which it is.
use Rattle.std.specs.Prelude.{ℕ, ◌≡◌, refl, cond, eqb}
use Rattle.std.proofs.Common.{ap, sym, ◌∙◌, arith}
use Rattle.laws.specs.Answers.{not_refused, answer_of}
use Rattle.laws.specs.declared.answers.Refusal.{Refusal}
use Rattle.laws.specs.declared.answers.Refusal.TheVariants.{MemoryNotFull, NoCycleRoom, NotAnOpcode, BoundTooHigh, MalformedRecord, WrongSum, PastTheEnd, NoEnd, FirstAboveLast, NoRoom, MalformedEntry, StrayEntry, WouldRead, WouldStore, NotThere}

-- No refusal has the answer 0.
pub never_good : (r : Refusal) → answer_of r ≡ not_refused → ⊥
never_good MemoryNotFull z = omega arith
never_good NoCycleRoom z = omega arith
never_good NotAnOpcode z = omega arith
never_good BoundTooHigh z = omega arith
never_good MalformedRecord z = omega arith
never_good WrongSum z = omega arith
never_good PastTheEnd z = omega arith
never_good NoEnd z = omega arith
never_good FirstAboveLast z = omega arith
never_good NoRoom z = omega arith
never_good MalformedEntry z = omega arith
never_good StrayEntry z = omega arith
never_good WouldRead z = omega arith
never_good WouldStore z = omega arith
never_good NotThere z = omega arith

-- the refusal of a number
abbrev refusal_at : ℕ → Refusal
refusal_at n =
    cond (eqb n 1) MemoryNotFull
    (cond (eqb n 2) NoCycleRoom
    (cond (eqb n 3) NotAnOpcode
    (cond (eqb n 4) BoundTooHigh
    (cond (eqb n 5) MalformedRecord
    (cond (eqb n 6) WrongSum
    (cond (eqb n 7) PastTheEnd
    (cond (eqb n 8) NoEnd
    (cond (eqb n 9) FirstAboveLast
    (cond (eqb n 10) NoRoom
    (cond (eqb n 11) MalformedEntry
    (cond (eqb n 12) StrayEntry
    (cond (eqb n 13) WouldRead
    (cond (eqb n 14) WouldStore NotThere)))))))))))))

back : (r : Refusal) → refusal_at (answer_of r) ≡ r
back MemoryNotFull = refl
back NoCycleRoom = refl
back NotAnOpcode = refl
back BoundTooHigh = refl
back MalformedRecord = refl
back WrongSum = refl
back PastTheEnd = refl
back NoEnd = refl
back FirstAboveLast = refl
back NoRoom = refl
back MalformedEntry = refl
back StrayEntry = refl
back WouldRead = refl
back WouldStore = refl
back NotThere = refl

-- No two of them have the same number.
pub one_refusal : (a b : Refusal) → answer_of a ≡ answer_of b → a ≡ b
one_refusal a b e = sym (back a) ∙ ap refusal_at e ∙ back b
