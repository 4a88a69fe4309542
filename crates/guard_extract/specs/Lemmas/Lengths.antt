-- How long a line and a sentence can be, and the extract of an image, as the code makes it.
use Rattle.std.specs.Prelude.{ℕ, ◌+◌, ◌≤◌, ◌<◌, ◌^◌, ◌≡◌, Bool, List, [], ◌∷◌, ◌++◌}
use Rattle.std.proofs.Common.{ap, sym, ◌∙◌, arith, lit≤, length-append}
use borrow.Author.Tests.{ne_eqb}
use Rattle.std.proofs.Math.ListN.{length}
use Rattle.manual.specs.declared.Machine.{Machine}
use Rattle.manual.specs.declared.Reason.TheVariants.{MemoryNotFull}
use Rattle.manual.specs.Interrupts.{idle}
use Rattle.manual.specs.Stepping.{full_memory}
use Rattle.text_writing.specs.Numerals.{digit, decimal}
use Rattle.text_writing.specs.Lemmas.Texts.{decimal_more, decimal_length}
use Rattle.trace_fields.specs.Fields.{machine_fields}
use Rattle.image_run.specs.Report.{image_start}
use Rattle.guard_maps.specs.declared.Touch.{Touch}
use Rattle.guard_maps.specs.Maps.{touch_answer, nowhere}
use Rattle.guard.specs.declared.Halt.{Halt}
use Rattle.guard.specs.Guarded.{Guarded, ran, guarded_full}
use Rattle.guard.specs.Extract.{blanked}
use Rattle.guard.specs.Lemmas.Blanking.{blanked_length, extract_refused, extract_whole}
use Rattle.guard_extract.specs.Extract.{image_extract}
use Rattle.guard_extract.specs.Words.{halt_line, unread, would, longest_sealed_line, longest_oath}

-- ---- the run

module _ (sealed : ℕ → Bool) (steps : ℕ) (m : List ℕ) where
  pub image_refused : (length m ≡ full_memory → ⊥) → image_extract sealed steps m ≡ (ran MemoryNotFull 0 (image_start m), m)
  unfolding image_extract image_start
  image_refused f =
      let short : length (blanked sealed m) ≡ full_memory → ⊥ = λ e. f (sym (blanked_length sealed m) ∙ e) in
      extract_refused sealed (length m) steps idle (image_start (blanked sealed m)) m f
      ∙ rw (ne_eqb (length (blanked sealed m)) full_memory short, ne_eqb (length m) full_memory f)

  -- blanked, started and guarded
  pub image_by : {b : List ℕ} {s : Machine} {w : Guarded × List ℕ} → length m ≡ full_memory → b ≡ blanked sealed m → s ≡ image_start b
      → w ≡ guarded_full sealed nowhere steps 0 idle s b
      → w ≡ image_extract sealed steps m
  unfolding image_extract
  image_by full e h g = g ∙ rw (h, e) (sym (extract_whole sealed (length m) steps idle (image_start (blanked sealed m)) m full))

-- ---- the line

two_digits_lem : (t : Touch) → touch_answer t < 100
two_digits_lem (Touch.Read a) = omega arith
two_digits_lem (Touch.Store a) = omega arith

-- a count of 64 bits has twenty digits
pub halt_fits : (h : Halt) → h.steps < 2 ^ 64 → h.machine.cycles < 2 ^ 64 → length (halt_line h) ≤ longest_sealed_line
unfolding machine_fields
halt_fits h s k =
    simp length-append
    (omega (arith, decimal_length 1 (touch_answer h.touch) (omega (arith, two_digits_lem h.touch)), decimal_length 19 h.steps (omega arith), decimal_length 19 h.machine.cycles (omega arith)))

-- ---- the sentences

pub unread_fits : (word : List ℕ) (steps : ℕ) → steps < 2 ^ 64 → length (unread word steps) ≤ longest_oath + length word
unread_fits word steps h = simp length-append (omega (arith, decimal_length 19 steps (omega arith)))

-- the number after the last count of 64 bits, its last digit by itself
last_digit : decimal 18446744073709551616 ≡ decimal 1844674407370955161 ++ 54 ∷ []
unfolding digit
last_digit = decimal_more 18446744073709551616 (lit≤ tt)

pub after_last : (count : ℕ) → count ≡ 18446744073709551615 → decimal (count + 1) ≡ decimal 1844674407370955161 ++ 54 ∷ []
after_last count e = ap (λ (n : ℕ). decimal (n + 1)) e ∙ last_digit

pub would_fits : (steps place : ℕ) → steps < 2 ^ 64 → length (would steps place) ≤ longest_oath
would_fits steps place h = simp length-append (omega (arith, decimal_length 19 (steps + 1) (omega arith)))
