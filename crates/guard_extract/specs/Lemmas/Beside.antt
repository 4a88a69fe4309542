-- The extract of an image beside the run of the image itself: what the theorems of Oath.antt stand on.
use Rattle.std.specs.Prelude.{ℕ, ◌≡◌, refl, Bool, true, false, cond, eqb, Ok, Err}
use Rattle.std.proofs.Math.Path.{ap}
use Rattle.std.proofs.Common.{sym, ◌∙◌, subst, true≢false, ⊎_elim, arith, eq-eqb}
use mathlib.Core.List.{List, ◌∷◌}
use Rattle.std.proofs.Math.ListN.{length, get_or}
use Rattle.laws.specs.Answers.{not_refused, would_read}
use Rattle.manual.specs.declared.Ended.{Ended}
use Rattle.manual.specs.declared.Reason.{Reason}
use Rattle.manual.specs.declared.Reason.TheVariants.{Made, MemoryNotFull, NoCycleRoom, NotAnOpcode, BoundTooHigh}
use Rattle.manual.specs.Micro.{exec, accesses, reads, stores, Gives}
use Rattle.manual.specs.Outcomes.{number}
use Rattle.manual.specs.Interrupts.{idle}
use Rattle.manual.specs.Stepping.{full_memory, long_run}
use Rattle.manual.specs.ReadList.{listed_long_run}
use Rattle.manual.proofs.Theorems.Reads.{long_run_reads}
use Rattle.manual.proofs.Lemmas.StepLaws.{long_short}
use Rattle.manual.proofs.Theorems.Sealed.{Differ, Unsealed}
use Rattle.statuses.specs.declared.Goal.{Goal}
use Rattle.statuses.specs.Statuses.{reached, end_status}
use Rattle.statuses.specs.Theorems.Statuses.{only_where_reached}
use Rattle.image_run.specs.Report.{from_start, long_image_run, image_start}
use Rattle.image_run.specs.Lemmas.Report.{started}
use Rattle.guard_maps.specs.declared.Touch.{Touch}
use Rattle.guard_maps.specs.Maps.{touch_answer, nowhere}
use Rattle.guard.specs.declared.Halt.{Halt}
use Rattle.guard.specs.Guarded.{Guarded, guarded}
use Rattle.guard.specs.Extract.{blanked, extract}
use Rattle.guard.specs.Lemmas.AnyGuard.{Under}
use Rattle.guard.specs.Lemmas.Blanking.{blanked_length, blanked_at}
use Rattle.guard.specs.Theorems.Guarding.{Stopped}
use Rattle.guard.specs.Theorems.Extracting.{Extracted, same_blanked, one_extract, extract_right, extract_halted}
use Rattle.guard_extract.specs.Extract.{image_extract}
use Rattle.guard_extract.specs.Words.{sealed_status}

-- ---- the run of an image

module _ (steps : ℕ) (m : List ℕ) where
  -- it is the run from the image's start
  pub from_start_lem : exec (long_image_run steps (length m)) m ≡ exec (long_run (length m) steps idle (image_start m)) m
  from_start_lem = started (λ s. long_run (length m) steps idle s) m (λ s f. long_short (length m) steps idle s m f)

  -- after the two bytes of the start it reads what that run reads, and it stores to what that run stores to
  pub reads_from_start : length m ≡ full_memory → reads (long_image_run steps (length m)) m ≡ 0xFFFC ∷ 0xFFFD ∷ reads (long_run (length m) steps idle (image_start m)) m
  unfolding from_start image_start accesses
  reads_from_start full = rw (eq-eqb (length m) full_memory full)

  pub stores_from_start : length m ≡ full_memory → stores (long_image_run steps (length m)) m ≡ stores (long_run (length m) steps idle (image_start m)) m
  unfolding from_start image_start accesses
  stores_from_start full = rw (eq-eqb (length m) full_memory full)

-- ---- what the status means

-- a halt is no status 0
halt_not_0 : (t : Touch) → touch_answer t ≡ 0 → ⊥
halt_not_0 (Touch.Read a) e = omega arith
halt_not_0 (Touch.Store a) e = omega arith

-- 0: it was not halted, and ended as it was meant to
pub status_0 : (goal : Goal) (w : Guarded) → sealed_status goal w ≡ 0 → (q : Ended) × (w ≡ Ok q) × (reached goal q ≡ true)
status_0 goal (Ok q) h = (q, refl, only_where_reached goal q h)
status_0 goal (Err x) h = absurd (halt_not_0 x.touch h)

no_end_13 : (t u : Bool) (r : Reason) → cond t 0 (cond u 20 (number r)) ≡ would_read → ⊥
no_end_13 true u r h = omega arith
no_end_13 false true r h = omega arith
no_end_13 false false Made h = omega arith
no_end_13 false false MemoryNotFull h = omega arith
no_end_13 false false NoCycleRoom h = omega arith
no_end_13 false false NotAnOpcode h = omega arith
no_end_13 false false BoundTooHigh h = omega arith

only_read : (t : Touch) → touch_answer t ≡ would_read → (a : ℕ) × (t ≡ Touch.Read a)
only_read (Touch.Read a) e = (a, refl)
only_read (Touch.Store a) e = absurd (omega arith)

-- 13: it was halted before it would have read a byte
pub status_13 : (goal : Goal) (w : Guarded) → sealed_status goal w ≡ would_read → (h : Halt) × (a : ℕ) × (w ≡ Err h) × (h.touch ≡ Touch.Read a)
unfolding end_status
status_13 goal (Ok q) h = absurd (no_end_13 (reached goal q) (eqb (number q.reason) not_refused) q.reason h)
status_13 goal (Err x) h = let (a, e) = only_read x.touch h in (x, a, refl, e)

-- ---- the image

module _ (sealed : ℕ → Bool) (steps : ℕ) where
  -- two images that differ only in sealed bytes have one extract
  pub one_image : (m₁ m₂ : List ℕ) → Differ (Under sealed) m₁ m₂ → image_extract sealed steps m₁ ≡ image_extract sealed steps m₂
  unfolding image_extract
  one_image m₁ m₂ d =
      ap (λ (b : List ℕ). extract sealed (length m₁) steps idle (image_start b) m₁) (same_blanked sealed m₁ m₂ d)
      ∙ one_extract sealed steps idle (image_start (blanked sealed m₂)) m₁ m₂ d

  module _ (m : List ℕ) (full : length m ≡ full_memory) (lo : sealed 0xFFFC ≡ false) (hi : sealed 0xFFFD ≡ false) where
    -- if the address of the start is not sealed, the blanked image starts where the image does
    same_start : image_start (blanked sealed m) ≡ image_start m
    unfolding image_start
    same_start =
        let size : length (blanked sealed m) ≡ full_memory = blanked_length sealed m ∙ full in
        let low : get_or (blanked sealed m) 0xFFFC 0 ≡ get_or m 0xFFFC 0 = blanked_at sealed m 0xFFFC ∙ rw lo in
        let high : get_or (blanked sealed m) 0xFFFD 0 ≡ get_or m 0xFFFD 0 = blanked_at sealed m 0xFFFD ∙ rw hi in
        rw (size, full, low, high)

    as_extract : image_extract sealed steps m ≡ extract sealed (length m) steps idle (image_start m) m
    unfolding image_extract
    as_extract = rw same_start

    pub unread_from : (j : ℕ) → Unsealed (Under sealed) (listed_long_run (length m) j idle (image_start m) m) → Unsealed (Under sealed) (reads (long_image_run j (length m)) m)
    unread_from j u =
        rw (reads_from_start j m full, long_run_reads (length m) j idle (image_start m) m)
        (λ a. ⊎_elim (λ (e : a ≡ 0xFFFC) s. absurd (true≢false (sym s ∙ ap sealed e ∙ lo))) (⊎_elim (λ (e : a ≡ 0xFFFD) s. absurd (true≢false (sym s ∙ ap sealed e ∙ hi))) (u a)))

    -- with status 0
    pub ended_well : (goal : Goal) {w : Guarded} {x : List ℕ} → (w, x) ≡ image_extract sealed steps m → sealed_status goal w ≡ 0
        → {q : Ended} {e : List ℕ} → Gives (long_image_run steps (length m)) m q e
        → (w ≡ Ok q) × (reached goal q ≡ true) × Unsealed (Under sealed) (reads (long_image_run steps (length m)) m)
        × Extracted sealed (stores (long_image_run steps (length m)) m) x e
    ended_well goal {w} {x} g zero {q} {e} ran =
        let (p, is, good) = status_0 goal w zero in
        let so = extract_right sealed steps idle (image_start m) m full (subst (λ (v : Guarded). (v, x) ≡ image_extract sealed steps m) is g ∙ as_extract) (sym (from_start_lem steps m) ∙ ran) in (
          is ∙ ap Ok so.0,
          subst (λ (q : Ended). reached goal q ≡ true) so.0 good,
          unread_from steps so.1,
          rw (stores_from_start steps m full) so.2,
        )

    -- if it was halted, so is the guarded run of the image, and at the same place
    pub halted_there : (h : Halt) {x : List ℕ} → (Err h, x) ≡ image_extract sealed steps m
        → Stopped sealed nowhere (length m) steps idle (image_start m) m h.touch h.steps h.machine (guarded sealed nowhere (length m) steps idle (image_start m) m).1
    halted_there h g = extract_halted sealed steps idle (image_start m) m full h.touch h.steps h.machine (g ∙ as_extract)
