-- What stands before the cut of a text is whole entries, and what stands after it has no LF.
use Rattle.std.specs.Prelude.{ℕ, zero, suc, ◌-◌, ◌<◌, ◌≤◌, ◌≡◌, refl, Bool, true, false, cond, List, [], ◌∷◌, ◌++◌, eqb, length, get_or, take}
use Rattle.std.proofs.Common.{ap, sym, ◌∙◌, inl, inr, not-suc-le-zero, arith, take-suc, eq-eqb, ne_eqb, eqb-true}
use Rattle.std.proofs.Math.Decide.{ℕ_discrete}
use Rattle.std.proofs.lemmas.Bool.{eqb-false}
use Rattle.trace_checking.specs.Theorems.Parts.{Whole}
use Rattle.trace_checking.specs.Inner.Cutting.{end_before, whole_end}

-- ---- for the loop

pub end_here : (s : List ℕ) (n : ℕ) → 0 < n → get_or s (n - 1) 0 ≡ 10 → end_before n s ≡ n
unfolding end_before
end_here s zero h e = absurd (not-suc-le-zero h)
end_here s (suc n) h e = let one : suc n - 1 ≡ n = omega arith in rw (eq-eqb (get_or s n 0) 10 (rw one at e))

pub end_before_lem : (s : List ℕ) (n : ℕ) → 0 < n → (get_or s (n - 1) 0 ≡ 10 → ⊥) → end_before n s ≡ end_before (n - 1) s
unfolding end_before
end_before_lem s zero h f = absurd (not-suc-le-zero h)
end_before_lem s (suc n) h f = let one : suc n - 1 ≡ n = omega arith in rw (one, ne_eqb (get_or s n 0) 10 (λ e. f (rw one e)))

pub end_none : (s : List ℕ) (n : ℕ) → n ≤ 0 → end_before n s ≡ 0
unfolding end_before
end_none s zero h = refl
end_none s (suc n) h = absurd (not-suc-le-zero h)

-- ---- what stands before the cut are whole entries

whole_before : (n : ℕ) (s : List ℕ) → n ≤ length s → Whole (take (end_before n s) s)
unfolding end_before
whole_before zero s h = inl refl
whole_before (suc n) s h = go (eqb (get_or s n 0) 10) refl (whole_before n s (omega arith))
  where
    go : (t : Bool) → eqb (get_or s n 0) 10 ≡ t → Whole (take (end_before n s) s) → Whole (take (cond t (suc n) (end_before n s)) s)
    go true e before = inr (take n s, take-suc s n 0 (omega arith) ∙ ap (λ (c : ℕ). take n s ++ c ∷ []) (eqb-true (get_or s n 0) 10 e))
    go false e before = before

pub cut_whole : (s : List ℕ) → Whole (take (whole_end s) s)
cut_whole s = whole_before (length s) s (omega arith)

-- ---- what stands after the cut has no LF

after_before : (n i : ℕ) (s : List ℕ) → end_before n s ≤ i → i < n → get_or s i 0 ≡ 10 → ⊥
unfolding end_before
after_before zero i s h l e = omega arith
after_before (suc n) i s h l e = go (eqb (get_or s n 0) 10) refl (ℕ_discrete i n) h (λ k j. after_before n i s k j e)
  where
    go : (t : Bool) → eqb (get_or s n 0) 10 ≡ t → Dec (i ≡ n) → cond t (suc n) (end_before n s) ≤ i → (end_before n s ≤ i → i < n → ⊥) → ⊥
    go true g d k before = omega arith
    go false g (yes d) k before = eqb-false (get_or s n 0) 10 g (ap (λ (j : ℕ). get_or s j 0) (sym d) ∙ e)
    go false g (no d) k before = before k (omega arith)

pub no_feed : (s : List ℕ) (i : ℕ) → whole_end s ≤ i → i < length s → get_or s i 0 ≡ 10 → ⊥
no_feed s i h l = after_before (length s) i s h l
