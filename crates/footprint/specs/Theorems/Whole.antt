-- What a footprint is worth: it leaves nothing out.
use Rattle.std.specs.Prelude.{◌≡◌, ℕ, ◌≤◌, List, [], ◌∷◌, length, refl}
use Rattle.std.proofs.Common.{◌∙◌, sym, arith}
use Rattle.manual.specs.declared.Lines.{Lines}
use Rattle.manual.specs.declared.Machine.{Machine}
use Rattle.manual.specs.Micro.{reads, stores}
use Rattle.manual.specs.Stepping.{step}
use Rattle.manual.specs.ReadList.{listed_step_full, listed_step}
use Rattle.manual.proofs.Theorems.Reads.{step_reads}
use Rattle.manual.proofs.Theorems.FewReads.{at_most_five_reads}
use Rattle.manual.specs.StoreList.{stored_by_step_full, stored_by_step}
use Rattle.manual.proofs.Theorems.Stores.{step_stores, at_most_three_stores}
use Rattle.footprint.specs.Places.{footprint_of, addresses}

-- a list of at most five addresses is kept whole
pub all_kept : (l : List ℕ) → length l ≤ 5 → addresses (footprint_of l) ≡ l
all_kept [] h = refl
all_kept (a ∷ []) h = refl
all_kept (a ∷ b ∷ []) h = refl
all_kept (a ∷ b ∷ c ∷ []) h = refl
all_kept (a ∷ b ∷ c ∷ d ∷ []) h = refl
all_kept (a ∷ b ∷ c ∷ d ∷ e ∷ []) h = refl
all_kept (a ∷ b ∷ c ∷ d ∷ e ∷ f ∷ l) h = absurd (omega arith)

-- as is what a step on a full memory reads
pub full_kept : (lines : Lines) (s : Machine) (m : List ℕ) → addresses (footprint_of (listed_step_full lines s m)) ≡ listed_step_full lines s m
full_kept lines s m = all_kept (listed_step_full lines s m) (rw (step_reads 65536 lines s m) at (at_most_five_reads 65536 lines s m))

-- and what it stores to
pub full_stores_kept : (lines : Lines) (s : Machine) (m : List ℕ) → addresses (footprint_of (stored_by_step_full lines s m)) ≡ stored_by_step_full lines s m
full_stores_kept lines s m =
    let few : length (stored_by_step_full lines s m) ≤ 3 = rw (step_stores 65536 lines s m) at (at_most_three_stores 65536 lines s m) in
    all_kept (stored_by_step_full lines s m) (omega (arith, few))

module _ (size : ℕ) (lines : Lines) (s : Machine) (m : List ℕ) where
  -- The footprint that `reads_of` promises names each address that the step reads, in order, and no other.
  pub reads_whole : addresses (footprint_of (listed_step size lines s m)) ≡ reads (step size lines s) m
  reads_whole =
      let few : length (listed_step size lines s m) ≤ 5 = rw (step_reads size lines s m) at (at_most_five_reads size lines s m) in
      all_kept (listed_step size lines s m) few ∙ sym (step_reads size lines s m)

  -- The one that `stores_of` promises names each address that the step stores to, in order, and no other.
  pub stores_whole : addresses (footprint_of (stored_by_step size lines s m)) ≡ stores (step size lines s) m
  stores_whole =
      let few : length (stored_by_step size lines s m) ≤ 3 = rw (step_stores size lines s m) at (at_most_three_stores size lines s m) in
      all_kept (stored_by_step size lines s m) (omega (arith, few)) ∙ sym (step_stores size lines s m)
