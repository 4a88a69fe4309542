-- Laws for the proofs of the code.
use Rattle.std.specs.Prelude.{ℕ, ◌+◌, ◌≤◌, ◌≡◌, refl, List, ◌++◌, length, take, drop, Option, Some, None}
use Rattle.std.proofs.Math.Path.{ap}
use Rattle.std.proofs.Common.{sym, ◌∙◌, arith, length-append, take_at, length-take-le, eq-eqb, ne_eqb}
use Rattle.std.proofs.lemmas.List.Edits.{sets-eq}
use Rattle.text_writing.specs.Written.{Wrote}
use Rattle.manual.specs.declared.Machine.{Machine}
use Rattle.manual.specs.declared.Reason.TheVariants.{MemoryNotFull}
use Rattle.manual.specs.Outcomes.{ended}
use Rattle.manual.specs.Stepping.{full_memory}
use Rattle.statuses.specs.declared.Goal.{Goal}
use Rattle.statuses.specs.declared.Goal.TheVariants.{Unnamed, At, AllSteps}
use Rattle.statuses.specs.Statuses.{reached, end_status}
use Rattle.trace_line.specs.declared.Spelled.{Spelled}
use Rattle.trace_line.specs.Fields.{line_of, line_from}
use Rattle.image_halted.specs.Halted.{state_in, start_by, start_of, memory_by, memory_of}

-- a line that was read at a place ends after it
pub line_after : (at : ℕ) (l : Option Spelled) (q : Spelled) → line_from at l ≡ Some q → at ≤ q.next
line_after at (Some p) q e = let same : at + p.next ≡ q.next = cc in omega arith
line_after at None q e = let z : ◌≡◌ {A = ℕ} 0 1 = cc in absurd (omega arith)

module _ (f : List ℕ) where
  by_start : {l : Option Spelled} (s : Option Machine) → l ≡ state_in f → start_by (length f) l ≡ s
      → (s ≡ start_of f) × (memory_by s f ≡ memory_of f)
  unfolding start_of memory_of
  by_start {l} s e g =
      let same : s ≡ start_of f = sym (ap (start_by (length f)) (sym e) ∙ g) in
      (same, ap (λ (t : Option Machine). memory_by t f) same)

  module _ {q : Spelled} (e : Some q ≡ state_in f) where
    -- after a whole memory stands a line, and nothing more
    pub opens : q.next ≡ length f → (Some q.machine ≡ start_of f) × (take full_memory f ≡ memory_of f)
    opens h = by_start (Some q.machine) e (rw (eq-eqb q.next (length f) h))

    pub whole : q.next ≡ length f → full_memory ≤ length f
    whole h = omega (arith, line_after full_memory (line_of (drop full_memory f)) q (sym e))

    -- something more
    pub longer : (q.next ≡ length f → ⊥) → (None ≡ start_of f) × (f ≡ memory_of f)
    longer h = by_start None e (rw (ne_eqb q.next (length f) h))

  -- no line
  pub plain : None ≡ state_in f → (None ≡ start_of f) × (f ≡ memory_of f)
  plain e = by_start None e refl

-- a text that was put after the memory
pub after_memory : {l t l' : List ℕ} {n : ℕ} → Wrote l full_memory t l' n → full_memory + length t ≤ length l
    → (take n l' ≡ take full_memory l ++ t) × (n ≤ length l)
after_memory {l} {t} {l'} {n} w h =
    let size : n ≡ length (take full_memory l ++ t) =
    omega (arith, w.ends, w.fits, length-append (take full_memory l) t, length-take-le full_memory l (omega arith)) in (
      rw (w.bytes, sets-eq t l full_memory h, size) (take_at (take full_memory l ++ t) (drop (full_memory + length t) l) _ refl),
      omega (arith, w.ends, w.fits),
    )

-- A memory that is not whole has no status 0: nothing is kept of it.
pub short_refused : (goal : Goal) (s : Machine) → end_status goal (ended MemoryNotFull 0 s) ≡ 1
unfolding end_status reached
short_refused Unnamed s = refl
short_refused (At address) s = refl
short_refused AllSteps s = refl
