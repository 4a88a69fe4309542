-- Laws that the proofs of extract.rt cite.
use Rattle.std.specs.Prelude.{◌≡◌, ℕ, zero, suc, ◌+◌, ◌<◌, ◌≤◌, Bool, true, false, cond, List, [], ◌∷◌, length, ◌≢◌, slice_index, slice_set, refl}
use Rattle.std.proofs.Common.{ap, sym, ◌∙◌, add-zero, eq-eqb, ne_eqb, ext_get_or, get_or-set_same, get_or-set_other}
use Rattle.std.proofs.Math.Decide.{ℕ_discrete}
use native.Mathlib.Omega.{arith}
use Rattle.manual.specs.declared.Lines.{Lines}
use Rattle.manual.specs.declared.Machine.{Machine}
use Rattle.manual.specs.declared.Reason.TheVariants.{MemoryNotFull}
use Rattle.manual.specs.Stepping.{full_memory}
use Rattle.guard_maps.specs.Maps.{nowhere}
use Rattle.guard.specs.Guarded.{ran, guarded_full}
use Rattle.guard.specs.Extract.{blanked_from, blanked, extract}

module _ (sealed : ℕ → Bool) where
  from_length : (i : ℕ) (m : List ℕ) → length (blanked_from sealed i m) ≡ length m
  from_length i [] = refl
  from_length i (b ∷ m) = ap suc (from_length (i + 1) m)

  nothing : (t : Bool) → ◌≡◌ {A = ℕ} 0 (cond t 0 0)
  nothing true = refl
  nothing false = refl

  from_at : (i : ℕ) (m : List ℕ) (k : ℕ) → slice_index (blanked_from sealed i m) k ≡ cond (sealed (i + k)) 0 (slice_index m k)
  from_at i [] k = nothing (sealed (i + k))
  from_at i (b ∷ m) zero = rw (add-zero i)
  from_at i (b ∷ m) (suc k) = let on : i + 1 + k ≡ i + suc k = omega arith in rw (from_at (i + 1) m k, on)

  pub blanked_length : (m : List ℕ) → length (blanked sealed m) ≡ length m
  unfolding blanked
  blanked_length m = from_length 0 m

  -- a sealed byte is 0, any other what it was
  pub blanked_at : (m : List ℕ) (k : ℕ) → slice_index (blanked sealed m) k ≡ cond (sealed k) 0 (slice_index m k)
  unfolding blanked
  blanked_at m k = let same : 0 + k ≡ k = omega arith in from_at 0 m k ∙ rw same

  -- what the loop has done before the place i
  pub record Blanks (i : ℕ) (m e : List ℕ) : Type 0 where
    pub before : (k : ℕ) → k < i → slice_index e k ≡ cond (sealed k) 0 (slice_index m k)
    pub after : (k : ℕ) → i ≤ k → slice_index e k ≡ slice_index m k

  pub none_yet : (m : List ℕ) → Blanks 0 m m
  none_yet m = record { before = λ k l. absurd (omega arith); after = λ k l. refl }

  module _ (i : ℕ) (m e : List ℕ) (b : Blanks i m e) where
    -- by whether k is the place
    before_by : (d : List ℕ) → ((k : ℕ) → (k ≢ i) → slice_index d k ≡ slice_index e k) → slice_index d i ≡ cond (sealed i) 0 (slice_index m i) → Blanks (i + 1) m d
    before_by d other here = record {
      before = λ k l. at k l (ℕ_discrete k i);
      after = λ k l. other k (λ (z : k ≡ i). omega arith) ∙ b.after k (omega arith);
    }
      where
        at : (k : ℕ) → k < i + 1 → Dec (k ≡ i) → slice_index d k ≡ cond (sealed k) 0 (slice_index m k)
        at k l (yes z) = rw z here
        at k l (no f) = other k f ∙ b.before k (omega (arith, f))

    pub one_blanked : i < length e → sealed i ≡ true → Blanks (i + 1) m (slice_set e i 0)
    one_blanked h s = before_by (slice_set e i 0) (λ k f. get_or-set_other e i k 0 0 f) (get_or-set_same e i 0 0 h ∙ rw s)

    pub one_left : sealed i ≡ false → Blanks (i + 1) m e
    one_left s = before_by e (λ k f. refl) (b.after i (omega arith) ∙ rw s)

  pub all_blanked : (m e : List ℕ) → length e ≡ length m → Blanks (length m) m e → e ≡ blanked sealed m
  all_blanked m e same b =
      ext_get_or 0 e (blanked sealed m) (same ∙ sym (blanked_length m)) (λ k f. b.before k (omega (arith, same)) ∙ sym (blanked_at m k))

-- ---- the run

module _ (sealed : ℕ → Bool) (size bound : ℕ) (lines : Lines) (s : Machine) (m : List ℕ) where
  pub extract_refused : (size ≢ full_memory) → extract sealed size bound lines s m ≡ (ran MemoryNotFull 0 s, m)
  unfolding extract
  extract_refused f = simp (ne_eqb _ _ f)

  pub extract_whole : size ≡ full_memory → extract sealed size bound lines s m ≡ guarded_full sealed nowhere bound 0 lines s (blanked sealed m)
  unfolding extract
  extract_whole e = simp (eq-eqb _ _ e)
