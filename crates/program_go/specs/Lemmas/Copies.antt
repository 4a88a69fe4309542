-- Laws for the proofs of the code: what go runs is a copy of what was read.
use Rattle.std.specs.Prelude.{ℕ, ◌≤◌, ◌≡◌, List, ◌++◌, length, take, drop, Option}
use Rattle.std.proofs.Common.{ap, sym, ◌∙◌, take-take}
use Rattle.manual.specs.declared.Machine.{Machine}
use Rattle.manual.specs.declared.Ended.{Ended}
use Rattle.manual.specs.Micro.{exec, Gives}
use Rattle.manual.specs.Stepping.{full_memory}
use Rattle.manual.specs.Lemmas.Programs.{exec_length}
use Rattle.manual.proofs.Lemmas.StepLaws.{long_short}
use Rattle.statuses.specs.declared.Goal.{Goal}
use Rattle.statuses.specs.Statuses.{end_status}
use Rattle.image_halted.specs.Halted.{start_of, memory_of, after_file}
use Rattle.image_halted.specs.Lemmas.Opening.{short_refused}
use Rattle.image_halted.specs.Lemmas.Copies.{copy_status, copy_file}
use Rattle.program_go.specs.Runs.{run_from, file_run, go_status, go_after}
use Rattle.program_go.specs.Theorems.Lunch.{from_machine}

-- `image` begins with what was read, of which `size` bytes are the memory; the run of them left m'
module _ (goal : Goal) (steps : ℕ) (input image : List ℕ) (size : ℕ) {start : Option Machine} {q : Ended} {m' : List ℕ}
    (copied : take (length input) image ≡ input) (starts : start ≡ start_of input) (memory : take size input ≡ memory_of input) (inside : size ≤ length input)
    (g : Gives (run_from start steps (length (take size image))) (take size image) q m') where
  abbrev runs : List ℕ → Ended × List ℕ
  runs m = exec (run_from start steps (length m)) m

  abbrev file : Ended → List ℕ → List ℕ
  file p m = after_file goal p.machine m

  short : (m : List ℕ) → (length m ≡ full_memory → ⊥) → end_status goal (runs m).0 ≡ 1
  short m f =
      ap (λ (w : Ended × List ℕ). end_status goal w.0) (from_machine start steps m ∙ long_short _ steps _ _ m f) ∙ short_refused goal _

  same : take size image ≡ memory_of input
  same = sym (take-take size (length input) image inside) ∙ ap (take size) copied ∙ memory

  same_length : length m' ≡ length (take size image)
  same_length = ap (λ (w : Ended × List ℕ). length w.1) (sym g) ∙ exec_length (run_from start steps (length (take size image))) (take size image)

  -- The status of what was read.
  pub status_of_lem : end_status goal q ≡ go_status goal steps input
  unfolding go_status file_run
  status_of_lem = rw (← starts) (copy_status runs (end_status goal) file short (memory_of input) image size same g same_length)

  -- What is left of it, if that is 0.
  pub file_of : {f : List ℕ} → end_status goal q ≡ 0 → f ≡ after_file goal q.machine (take full_memory (m' ++ drop size image)) → f ≡ go_after goal steps input
  unfolding go_after file_run
  file_of z e = rw (← starts) (copy_file runs (end_status goal) file short (memory_of input) image size same g same_length z e)
