-- There and back: a halted run opens to its state and its memory, only a halted run opens to a state, and an image opens to itself.
use Rattle.std.specs.Prelude.{ℕ, ◌+◌, ◌≤◌, ◌≡◌, Bool, true, false, cond, List, [], ◌++◌, eqb, length, take, drop, Option, Some, None}
use Rattle.std.proofs.Math.Path.{refl}
use Rattle.std.proofs.Common.{ap, sym, ◌∙◌, subst, append-nil, arith, length-append, length-drop, drop_of_length-le, take-append-drop, take_at, drop_at, length-take-le, eqb-true}
use Rattle.manual.specs.declared.Machine.{Machine}
use Rattle.manual.specs.Stepping.{full_memory}
use Rattle.text_reading.specs.Numbers.{nowhere}
use Rattle.trace_line.specs.declared.Spelled.{Spelled}
use Rattle.trace_line.specs.Fields.{line_of, line_from}
use Rattle.trace_line.specs.Lines.{Spellable, line_text}
use Rattle.trace_line.specs.Theorems.Lines.{Written, written_read, read_written, line_length}
use Rattle.image_halted.specs.Halted.{halted_run, state_in, start_by, start_of, memory_of}
use Rattle.image_halted.specs.Lemmas.Opening.{opens, plain}

-- ---- there

module _ (s : Machine) (m : List ℕ) (full : length m ≡ full_memory) (h : Spellable s) where
  stands : state_in (halted_run s m) ≡ Some (record { machine = s; next = full_memory + length (line_text s) })
  stands = rw (drop_at m (line_text s) full_memory full)
      (ap (λ (t : List ℕ). line_from full_memory (line_of t)) (sym (append-nil (line_text s))) ∙ ap (line_from full_memory) (written_read s [] h))

  -- A halted run opens to its state and its memory.
  pub opens_again : (start_of (halted_run s m) ≡ Some s) × (memory_of (halted_run s m) ≡ m)
  opens_again =
      let found = opens (halted_run s m) (sym stands) (omega (arith, length-append m (line_text s), full)) in
      (sym found.0, sym found.1 ∙ take_at m (line_text s) full_memory full)

-- ---- and back

-- a halted run of a spellable state, with the memory that it opens to
pub record Halted (f : List ℕ) (s : Machine) : Type 0 where
  pub spellable : Spellable s
  pub whole : length (memory_of f) ≡ full_memory
  pub file : f ≡ halted_run s (memory_of f)

-- the whole text is the line
nothing_more : (t : List ℕ) (q : Spelled) → Written t q → q.next ≡ length t → t ≡ line_text q.machine
nothing_more t q w e = w.text ∙ rw (drop_of_length-le t {i = q.next} (omega arith)) (append-nil (line_text q.machine))

module _ (f : List ℕ) (fits : length f ≤ nowhere) (s : Machine) where
  ends : (q : Spelled) → line_of (drop full_memory f) ≡ Some q → full_memory + q.next ≡ length f → q.machine ≡ s → memory_of f ≡ take full_memory f → Halted f s
  ends q e size same memory =
      let w = read_written (drop full_memory f) (omega (arith, length-drop full_memory f)) q e in
      let line : drop full_memory f ≡ line_text s = nothing_more (drop full_memory f) q w (omega (arith, length-drop full_memory f)) ∙ ap line_text same in
      record {
        spellable = subst Spellable same w.spellable;
        whole = ap length memory ∙ length-take-le full_memory f (omega arith);
        file = sym (take-append-drop full_memory f) ∙ ap (λ (t : List ℕ). take full_memory f ++ t) line ∙ ap (halted_run s) (sym memory);
      }

  by_test : (q : Spelled) (b : Bool) → line_of (drop full_memory f) ≡ Some q → eqb (full_memory + q.next) (length f) ≡ b
      → cond b (Some q.machine) None ≡ Some s → Halted f s
  by_test q true e t g =
      let size = eqb-true (full_memory + q.next) (length f) t in
      ends q e size (cc) (sym (opens f (ap (line_from full_memory) (sym e)) size).1)
  by_test q false e t g = let z : ◌≡◌ {A = ℕ} 0 1 = cc in absurd (omega arith)

  by_line : (l : Option Spelled) → line_of (drop full_memory f) ≡ l → start_by (length f) (line_from full_memory l) ≡ Some s → Halted f s
  by_line (Some q) e g = by_test q (eqb (full_memory + q.next) (length f)) e refl g
  by_line None e g = let z : ◌≡◌ {A = ℕ} 0 1 = cc in absurd (omega arith)

  -- A file that opens to a state is its halted run.
  pub only_halted : start_of f ≡ Some s → Halted f s
  unfolding start_of
  only_halted g = by_line (line_of (drop full_memory f)) refl g

-- nothing is no line
no_line : (l : Option Spelled) → line_of [] ≡ l → l ≡ None
no_line None e = refl
no_line (Some q) e =
    let w = read_written [] (omega arith) q e in
    absurd (omega (arith, w.size, w.inside, line_length q.machine))

-- An image opens to itself, and so does whatever is shorter.
pub opens_image : (f : List ℕ) → length f ≤ full_memory → (start_of f ≡ None) × (memory_of f ≡ f)
opens_image f h =
    let none : line_of (drop full_memory f) ≡ None = rw (drop_of_length-le f h) (no_line (line_of []) refl) in
    let found = plain f (sym (ap (line_from full_memory) none)) in
    (sym found.0, sym found.1)
