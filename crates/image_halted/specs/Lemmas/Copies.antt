-- A file that was read is run in a copy of it, which stands at the start of a buffer: laws for whoever keeps what the run leaves there.
use Rattle.std.specs.Prelude.{ℕ, ◌≡◌, List, ◌++◌, length, take, drop}
use Rattle.std.proofs.Common.{ap, sym, ◌∙◌, arith, take_at}
use Rattle.std.proofs.Math.Decide.{ℕ_discrete}
use Rattle.manual.specs.Stepping.{full_memory}

-- a run of a memory gives an answer and a memory; the answer has a status, 1 if the memory is not whole, and of both a file is made
module _ {A : Type 0} (run : List ℕ → A × List ℕ) (status : A → ℕ) (file : A → List ℕ → List ℕ)
    (short : (m : List ℕ) → (length m ≡ full_memory → ⊥) → status (run m).0 ≡ 1)
    (memory image : List ℕ) (size : ℕ) {x : A} {m' : List ℕ}
    (copied : take size image ≡ memory) (g : run (take size image) ≡ (x, m')) (same_length : length m' ≡ length (take size image)) where
  ran : run memory ≡ (x, m')
  ran = ap run (sym copied) ∙ g

  -- The status of what was read.
  pub copy_status : status x ≡ status (run memory).0
  copy_status = ap (λ (w : A × List ℕ). status w.0) (sym ran)

  whole_by : status x ≡ 0 → Dec (length memory ≡ full_memory) → length memory ≡ full_memory
  whole_by z (yes e) = e
  whole_by z (no f) = absurd (omega (arith, copy_status, short memory f))

  left_whole : status x ≡ 0 → length m' ≡ full_memory
  left_whole z = same_length ∙ ap length copied ∙ whole_by z (ℕ_discrete (length memory) full_memory)

  -- What is left of it, if that is 0: the memory stands at the start of the buffer.
  pub copy_file : {f : List ℕ} → status x ≡ 0 → f ≡ file x (take full_memory (m' ++ drop size image)) → f ≡ file (run memory).0 (run memory).1
  copy_file z e =
      e ∙ ap (file x) (take_at m' (drop size image) full_memory (left_whole z)) ∙ ap (λ (w : A × List ℕ). file w.0 w.1) (sym ran)
