-- Laws of what a punching gives, one for each way out of the code.
use Rattle.std.specs.Prelude.{◌≡◌, ℕ, suc, ◌+◌, ◌<◌, ◌≤◌, Bool, true, false, cond, not, List, length, take, drop, ◌-◌, ◌==◌, ◌≢◌, nat_lt}
use Rattle.std.proofs.Math.Path.{refl}
use Rattle.std.proofs.Common.{add-one, arith}
use Rattle.std.proofs.Math.Seq.{length-slice}
use borrow.Author.Tests.{eq-eqb, ne_eqb, lt-ltb, le-ltb, eqb-true, ltb-false}
use Rattle.laws.specs.Answers.{not_refused, memory_not_full, first_above_last}
use Rattle.manual.specs.Stepping.{full_memory}
use Rattle.text_writing.specs.Written.{Writes}
use Rattle.text_writing.specs.declared.Writer.{Writer}
use Rattle.text_writing.specs.Delivered.{Delivered, refused, delivered}
use Rattle.text_writing.specs.Lemmas.Delivered.{written, all_there}
use Rattle.tape_paper.specs.Grammar.{tape_text}
use Rattle.tape_punching.specs.Punching.{cut, stretch_of, tape_from, tape_into, longest_tape}
use Rattle.tape_punching.specs.Lemmas.Punching.{stretch_cut, tape_size}

module _ (m : List ℕ) (first last : ℕ) where
  -- the text as the code writes it, of the stretch by its length
  pub to_the_last : first ≤ last → {w w' : Writer} → Writes w (tape_text 0 (cut first 0 (take (last + 1 - first) (drop first m)))) w'
      → Writes w (tape_from m first last) w'
  unfolding tape_from
  to_the_last h p = rw (stretch_cut m first (last + 1) (omega arith), add-one last) at p

  -- a tape of the whole memory has 166,588 characters, and no tape has more
  pub text_length : length m ≡ full_memory → last < 65536 → length (tape_from m first last) ≤ longest_tape
  unfolding tape_from
  text_length f h = omega (arith, tape_size 0 first 0 (stretch_of m first last), length-slice first (suc last) m (omega arith))

module _ (m : List ℕ) (first last : ℕ) (buffer : List ℕ) where
  pub not_full : (length m ≢ full_memory) → refused memory_not_full buffer ≡ tape_into m first last buffer
  unfolding tape_into
  not_full h = rw (ne_eqb (length m) full_memory h)

  module _ (f : length m ≡ full_memory) where
    pub backwards : last < first → refused first_above_last buffer ≡ tape_into m first last buffer
    unfolding tape_into
    backwards h = rw (eq-eqb (length m) full_memory f, lt-ltb last first h)

    pub in_order_lem : {d : Delivered} → first ≤ last → d ≡ delivered (tape_from m first last) buffer → d ≡ tape_into m first last buffer
    unfolding tape_into
    in_order_lem h e = rw (eq-eqb (length m) full_memory f, le-ltb last first h) e

  -- What was not refused is written.
  pub answered : (tape_into m first last buffer).answer ≡ not_refused
      → (length m ≡ full_memory) × (first ≤ last) × (written (tape_into m first last buffer) ≡ tape_from m first last)
  unfolding tape_into
  answered z = by_length (length m == full_memory) refl z
    where
      by_order : (b : Bool) → nat_lt last first ≡ b → (cond b (refused first_above_last buffer) (delivered (tape_from m first last) buffer)).answer ≡ not_refused
          → (first ≤ last) × (written (cond b (refused first_above_last buffer) (delivered (tape_from m first last) buffer)) ≡ tape_from m first last)
      by_order true e y = absurd (omega arith)
      by_order false e y = (ltb-false last first e, all_there (tape_from m first last) buffer y)

      by_length : (b : Bool) → (length m == full_memory) ≡ b
          → (cond (not b) (refused memory_not_full buffer) (cond (nat_lt last first) (refused first_above_last buffer) (delivered (tape_from m first last) buffer))).answer ≡ not_refused
          → (length m ≡ full_memory) × (first ≤ last)
          × (written (cond (not b) (refused memory_not_full buffer) (cond (nat_lt last first) (refused first_above_last buffer) (delivered (tape_from m first last) buffer))) ≡ tape_from m first last)
      by_length true e y = let rest = by_order (nat_lt last first) refl y in (eqb-true (length m) full_memory e, rest.0, rest.1)
      by_length false e y = absurd (omega arith)
