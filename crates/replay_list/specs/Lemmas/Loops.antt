-- One turn of each reader that repeats, for the loops of the code.
use Prim.Native.Nat.{ℕ, zero, suc, ◌+◌, ◌-◌, ◌≤◌}
use Rattle.std.specs.Prelude.{◌≡◌, List, Bool, true, false, cond, eqb, [], ◌∷◌, drop, set, Option, Some, None}
use Rattle.std.proofs.Math.Path.{refl}
use Rattle.std.proofs.Common.{◌∙◌, not-suc-le-zero, add-zero, add-one, zero-add, drop-cons, drop_of_length-le, length-drop}
use Rattle.std.specs.List.{position_from}
use native.Mathlib.Omega.{arith}
use Rattle.std.proofs.Math.ListN.{length}
use borrow.Author.Tests.{eq-eqb, ne_eqb}
use Rattle.text_reading.specs.Numbers.{nowhere}
use Rattle.replay_list.specs.declared.Cell.{Cell}
use Rattle.replay_list.specs.Inner.Cells.{cell_found}
use Rattle.replay_list.specs.Lemmas.Lost.{gone_cell, got_cell, real_cell}
use Rattle.replay_list.specs.Lines.{cell_at, loaded_from, line_within, line_after}

module _ (s : List ℕ) (at : ℕ) (m : List ℕ) where
  pub load_full : (n : ℕ) → n ≤ 0 → loaded_from n s at m ≡ (at, m)
  unfolding loaded_from
  load_full zero h = refl
  load_full (suc n) h = absurd (not-suc-le-zero h)

  pub load_end : (n : ℕ) → None ≡ cell_found (cell_at s at) → loaded_from n s at m ≡ (at, m)
  unfolding loaded_from
  load_end zero e = refl
  load_end (suc n) e = rw (eq-eqb (cell_at s at).next nowhere (gone_cell _ e))

  pub load_more : {b : Cell} → Some b ≡ cell_found (cell_at s at) → (n k : ℕ) → k + 1 ≡ n
      → loaded_from n s at m ≡ loaded_from k s b.next (set m b.address b.byte)
  unfolding loaded_from
  load_more e zero k h = absurd (omega arith)
  load_more {b} e (suc n) k h =
      let one : k ≡ n = omega arith in
      rw (one, ne_eqb (cell_at s at).next nowhere (real_cell _ e), got_cell _ e)

-- ---- the end of a line, by the place of its LF in what is left of the text

abbrev pub is_feed : ℕ → Bool
is_feed b = eqb b 10

abbrev line_in : List ℕ → ℕ → ℕ
line_in [] at = at
line_in (b ∷ t) at = cond (eqb b 10) (at + 1) (line_in t (at + 1))

within_in : (n : ℕ) (s : List ℕ) (at : ℕ) → n ≡ length s - at → line_within n s at ≡ line_in (drop at s) at
unfolding line_within
within_in zero s at h = rw (drop_of_length-le s {i = at} (omega arith))
within_in (suc n) s at h = rw (drop-cons s at 0 (omega arith), within_in n s (at + 1) (omega arith), add-one at)

-- where the line ends, if the first LF is there, and if there is none
abbrev pub ends : ℕ → ℕ → Option ℕ → ℕ
ends at most (Some i) = at + i + 1
ends at most None = at + most

step : (at k most : ℕ) (r : Option ℕ) (next : ℕ) (u : Bool) → next ≡ ends at most r → cond u (at + k + 1) next ≡ ends at most (cond u (Some k) r)
step at k most r next true e = refl
step at k most r next false e = e

in_place : (t : List ℕ) (at k : ℕ) → line_in t (at + k) ≡ ends at (k + length t) (position_from is_feed k t)
in_place [] at k = rw add-zero
in_place (b ∷ t) at k =
    let one : at + k + 1 ≡ at + (k + 1) = omega arith in
    let most : k + length (b ∷ t) ≡ k + 1 + length t = omega arith in
    step at k (k + length (b ∷ t)) (position_from is_feed (k + 1) t) (line_in t (at + k + 1)) (eqb b 10) (rw (one, most) (in_place t at (k + 1)))

module _ (s : List ℕ) (at : ℕ) where
  pub line_found : (r : Option ℕ) → r ≡ position_from is_feed 0 (drop at s) → line_after s at ≡ ends at (length s - at) r
  unfolding line_after
  line_found r e =
      let whole = rw (add-zero, zero-add, length-drop) at (in_place (drop at s) at 0) in
      within_in (length s - at) s at refl ∙ rw e whole
