-- Laws for the proofs of the code.
use Rattle.std.specs.Prelude.{ℕ, ◌≡◌, refl, Bool, List, eqb, length, get_or}
use Rattle.std.proofs.Math.Path.{sym}
use Rattle.std.proofs.Common.{◌∙◌}
use Rattle.std.proofs.Math.Bool.{true, false}
use borrow.Author.Tests.{eq-eqb, ne_eqb, eqb-true, eqb-false}
use Rattle.manual.specs.declared.Machine.{Machine}
use Rattle.manual.specs.declared.Ended.{Ended}
use Rattle.manual.specs.declared.Reason.TheVariants.{MemoryNotFull}
use Rattle.manual.specs.Micro.{Micro, exec, Gives}
use Rattle.manual.specs.Words.{joined}
use Rattle.manual.specs.Outcomes.{ended}
use Rattle.manual.specs.Stepping.{full_memory}
use Rattle.image_run.specs.Report.{start, from_start, image_start}

module _ (go : Machine → Micro Ended) (size : ℕ) (m : List ℕ) where
  pub image_refused : (size ≡ full_memory → ⊥) → Gives (from_start go size) m (ended MemoryNotFull 0 (start 0)) m
  unfolding from_start
  image_refused h = rw (ne_eqb size full_memory h)

  pub image_run_lem : size ≡ full_memory → exec (from_start go size) m ≡ exec (go (start (joined (get_or m 0xFFFD 0) (get_or m 0xFFFC 0)))) m
  unfolding from_start
  image_run_lem h = rw (eq-eqb size full_memory h)

-- A run that refuses such an image by itself need not be kept from it.
module _ (go : Machine → Micro Ended) (m : List ℕ)
    (refuses : (s : Machine) → (length m ≡ full_memory → ⊥) → Gives (go s) m (ended MemoryNotFull 0 s) m) where
  by_length : (t : Bool) → eqb (length m) full_memory ≡ t → exec (from_start go (length m)) m ≡ exec (go (image_start m)) m
  unfolding image_start
  by_length true e = rw e (image_run_lem go (length m) m (eqb-true (length m) full_memory e))
  by_length false e =
      let other = eqb-false (length m) full_memory e in
      rw e (image_refused go (length m) m other ∙ sym (refuses (start 0) other))

  pub started : exec (from_start go (length m)) m ≡ exec (go (image_start m)) m
  started = by_length (eqb (length m) full_memory) refl
