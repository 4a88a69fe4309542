-- A rule of the opcode table: what a test computed over all the rows shows holds of every row that an opcode has.
use Rattle.std.specs.Prelude.{ℕ, ◌≡◌, Bool, true, false, cond, ◌&&◌, List, [], ◌∷◌, T, eqb, Some}
use Rattle.std.proofs.Common.{subst, arith}
use Rattle.instruction.specs.declared.Entry.{Entry}
use Rattle.instruction.specs.Opcodes.{Row, rows, find, decoded}

-- a test passes at every row
abbrev pub every_row : (Entry → Bool) → List Row → Bool
every_row test [] = true
every_row test (r ∷ rs) = test r.entry && every_row test rs

both : (a b : Bool) → T (a && b) → T a × T b
both true b t = (tt, t)
both false b t = absurd t

module _ (test : Entry → Bool) where
  found : (rs : List Row) (k : ℕ) (e : Entry) → T (every_row test rs) → find k rs ≡ Some e → T (test e)
  found [] k e t h = let z : ◌≡◌ {A = ℕ} 0 1 = cc in absurd (omega arith)
  found (r ∷ rs) k e t h = go (eqb k r.opcode) (found rs k e (both (test r.entry) (every_row test rs) t).1) h
    where
      go : (b : Bool) → (find k rs ≡ Some e → T (test e)) → cond b (Some r.entry) (find k rs) ≡ Some e → T (test e)
      go true f p = let q : r.entry ≡ e = cc in subst (λ (x : Entry). T (test x)) q (both (test r.entry) (every_row test rs) t).0
      go false f p = f p

  pub every_entry : T (every_row test rows) → (k : ℕ) (e : Entry) → decoded k ≡ Some e → T (test e)
  unfolding decoded
  every_entry t k e h = found rows k e t h
