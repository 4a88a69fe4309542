-- Laws for the proofs of the code: what sealed runs is a copy of what was read.
use Rattle.std.specs.Prelude.{ℕ, ◌≡◌, Bool, List, ◌++◌, length, take, drop}
use Rattle.std.proofs.Common.{ap, sym, ◌∙◌}
use Rattle.manual.specs.Stepping.{full_memory}
use Rattle.image_halted.specs.Lemmas.Opening.{short_refused}
use Rattle.image_halted.specs.Lemmas.Copies.{copy_status, copy_file}
use Rattle.guard.specs.Guarded.{Guarded}
use Rattle.image_run.specs.Report.{image_start}
use Rattle.guard_extract.specs.Extract.{image_extract}
use Rattle.guard_extract.specs.Words.{sealed_status}
use Rattle.guard_extract.specs.Lemmas.Lengths.{image_refused}
use Rattle.program_sealed.specs.declared.Work.{Work}
use Rattle.program_sealed.specs.Runs.{run_status, left_file, run_after}

-- `image` begins with what was read; the run of it left m'
module _ (sealed : ℕ → Bool) (w : Work) (input image : List ℕ) {x : Guarded} {m' : List ℕ} (copied : take (length input) image ≡ input)
    (g : (x, m') ≡ image_extract sealed w.steps (take (length input) image)) (same_length : length m' ≡ length (take (length input) image)) where
  abbrev runs : List ℕ → Guarded × List ℕ
  runs = image_extract sealed w.steps

  short : (m : List ℕ) → (length m ≡ full_memory → ⊥) → sealed_status w.goal (runs m).0 ≡ 1
  short m f =
      ap (λ (v : Guarded × List ℕ). sealed_status w.goal v.0) (image_refused sealed w.steps m f) ∙ short_refused w.goal (image_start m)

  -- The status of what was read.
  pub status_of_lem : sealed_status w.goal x ≡ run_status sealed w input
  unfolding run_status
  status_of_lem = copy_status runs (sealed_status w.goal) (left_file w.goal) short input image (length input) copied (sym g) same_length

  -- What is left of it, if that is 0.
  pub file_of : {file : List ℕ} → sealed_status w.goal x ≡ 0 → file ≡ left_file w.goal x (take full_memory (m' ++ drop (length input) image))
      → file ≡ run_after sealed w input
  unfolding run_after
  file_of z e = copy_file runs (sealed_status w.goal) (left_file w.goal) short input image (length input) copied (sym g) same_length z e
