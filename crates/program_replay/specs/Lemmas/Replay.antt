-- Laws for the proofs of the code: the parts of a text line in the order in which they are read, and one more text line counted.
use Prim.Native.Nat.{ℕ, zero, suc, ◌+◌, ◌-◌, ◌<◌, ◌≤◌}
use Rattle.std.specs.Prelude.{◌≡◌, replicate}
use Rattle.std.proofs.Math.Path.{refl, ap}
use Rattle.std.proofs.Common.{sym, ◌∙◌, eq-eqb}
use mathlib.Core.List.{List}
use native.Mathlib.Omega.{arith}
use Rattle.std.proofs.Math.ListN.{length}
use borrow.Author.Tests.{lt-ltb, le-ltb}
use Rattle.text_reading.specs.Numbers.{nowhere, mark_at}
use Rattle.text_reading.specs.Lemmas.Found.{lost_mark}
use Rattle.replay_list.specs.Lemmas.Lost.{lost_state, lost_bar, lost_loaded}
use Rattle.replay_list.specs.Lines.{state_at, bar_at, loaded_from, most_cells, line_after}
use Rattle.program_replay.specs.declared.compare.Verdict.{Verdict}
use Rattle.program_replay.specs.Verdicts.{zeros, end_at, line_verdict, faults, tally_from, tally_of}

pub zeroed : {m : List ℕ} {n : ℕ} → m ≡ replicate n 0 → n ≡ 65536 → m ≡ zeros
unfolding zeros
zeroed e h = e ∙ ap (λ (k : ℕ). replicate k 0) h

-- both memories are loaded from the first list
pub same_list : (s : List ℕ) (list : ℕ) {z₁ z₂ m e : List ℕ} {loaded again : ℕ} → z₁ ≡ zeros → z₂ ≡ zeros
    → loaded_from most_cells s list z₂ ≡ (again, e)
    → loaded_from most_cells s list z₁ ≡ (loaded, m)
    → (loaded_from most_cells s list zeros ≡ (loaded, m)) × (e ≡ m)
same_list s list z₁ z₂ x y =
    let x' = rw z₂ at x in
    let y' = rw z₁ at y in
    (y', ap (λ (p : ℕ × List ℕ). p.1) (sym x' ∙ y'))

-- a line that ends early ends nowhere: its end, from the place after each part on
module _ (s : List ℕ) where
  abbrev end_stored : ℕ → List ℕ → ℕ
  end_stored p m = end_at s (loaded_from most_cells s p m).0

  abbrev end_after : ℕ → List ℕ → ℕ
  end_after p m = end_stored (bar_at s p) m

  abbrev end_mark : ℕ → List ℕ → ℕ
  end_mark p m = end_after (state_at s p).next m

  abbrev end_bar : ℕ → List ℕ → ℕ
  end_bar p m = end_mark (mark_at 32 s p) m

  abbrev end_list : ℕ → ℕ
  end_list p = end_bar (bar_at s (loaded_from most_cells s p zeros).0) (loaded_from most_cells s p zeros).1

module _ (s : List ℕ) (fits : length s ≤ nowhere) where
  lost_end : (p : ℕ) → p ≡ nowhere → end_at s p ≡ nowhere
  unfolding end_at
  lost_end p lost = rw (eq-eqb _ nowhere (lost_mark s fits 10 p lost)) (lost_mark s fits 10 _ (lost_mark s fits 32 p lost))

  pub after_more : (p : ℕ) (m : List ℕ) → p ≡ nowhere → end_stored s p m ≡ nowhere
  after_more p m lost = lost_end _ (lost_loaded s fits most_cells p m lost)

  pub after_after : (p : ℕ) (m : List ℕ) → p ≡ nowhere → end_after s p m ≡ nowhere
  after_after p m lost = after_more _ m (lost_bar s fits p lost)

  pub after_mark : (p : ℕ) (m : List ℕ) → p ≡ nowhere → end_mark s p m ≡ nowhere
  after_mark p m lost = after_after _ m (lost_state s fits p lost)

  pub after_bar : (p : ℕ) (m : List ℕ) → p ≡ nowhere → end_bar s p m ≡ nowhere
  after_bar p m lost = after_mark _ m (lost_mark s fits 32 p lost)

  pub after_list : (p : ℕ) → p ≡ nowhere → end_list s p ≡ nowhere
  after_list p lost = after_bar _ _ (lost_bar s fits _ (lost_loaded s fits most_cells p zeros lost))

  pub after_before : (p : ℕ) → p ≡ nowhere → end_list s (bar_at s p) ≡ nowhere
  after_before p lost = after_list _ (lost_bar s fits p lost)

-- what is not the same is one fault
pub one_fault : (v : Verdict) → (v ≡ Verdict.Same → ⊥) → faults v ≡ 1
one_fault Verdict.Same other = absurd (other refl)
one_fault Verdict.Malformed other = refl
one_fault Verdict.Answer other = refl
one_fault Verdict.Counter other = refl
one_fault Verdict.Accumulator other = refl
one_fault Verdict.X other = refl
one_fault Verdict.Y other = refl
one_fault Verdict.Stack other = refl
one_fault Verdict.Status other = refl
one_fault Verdict.Cycles other = refl
one_fault Verdict.Levels other = refl
one_fault Verdict.Memory other = refl

pub tally_start : (s : List ℕ) → tally_of s ≡ tally_from (length s - 0) s 0 0 0
unfolding tally_of
tally_start s = let all : length s - 0 ≡ length s = omega arith in rw all

module _ (s : List ℕ) (at lines differ : ℕ) where
  pub tally_end : (n : ℕ) → length s ≤ at → tally_from n s at lines differ ≡ record { lines = lines; differ = differ }
  unfolding tally_from
  tally_end zero h = refl
  tally_end (suc n) h = rw (le-ltb at (length s) h)

  pub tally_more : lines ≤ at → at < length s
      → tally_from (length s - lines) s at lines differ
      ≡ tally_from (length s - (lines + 1)) s (line_after s at) (lines + 1) (differ + faults (line_verdict s at))
  unfolding tally_from
  tally_more p h =
      let more : length s - lines ≡ suc (length s - (lines + 1)) = omega arith in
      rw (more, lt-ltb at (length s) h)
