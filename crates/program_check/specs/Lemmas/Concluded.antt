-- Laws of Concluded.antt.
use Rattle.std.specs.Prelude.{◌≡◌, ℕ, ◌≤◌, ◌⊎◌, List, [], length, ◌≢◌, None}
use Rattle.std.proofs.Common.{ap, sym, ◌∙◌, inl, inr, append-nil, arith, ne_eqb}
use Rattle.text_reading.specs.Numbers.{nowhere}
use Rattle.statuses.specs.Statuses.{log_status, first_of}
use Rattle.trace_checking.specs.Checking.{checked_part}
use Rattle.text_writing.specs.Delivered.{answer_in}
use Rattle.program_check.specs.declared.log.Found.{Found}
use Rattle.program_check.specs.Inner.Ahead.{Settled}
use Rattle.program_check.specs.Inner.Turns.{part_in, Ends}
use Rattle.program_check.specs.Concluded.{Concludes}

module _ (image : List ℕ) (f : Found) {m : List ℕ} (e : Ends image f m) where
  -- What was found is the check of the text that was read.
  check_found : length e.0 ≤ nowhere → checked_part None image e.0 ≡ (part_in f, m)
  check_found h = by_end (e.1 h)
    where
      by_end : Settled image e.0 (part_in f, m) ⊎ (checked_part None image e.0 ≡ (part_in f, m)) → checked_part None image e.0 ≡ (part_in f, m)
      by_end (inr x) = x
      by_end (inl x) =
          ap (λ (l : List ℕ). checked_part None image l) (sym (append-nil e.0))
          ∙ x [] (omega (arith, h, ap length (append-nil e.0)))

  -- Its status is that of the text.
  pub concluded : (size failed status : ℕ) → size ≡ length image → status ≡ first_of failed (log_status size (answer_in f.refusal) f.lines) → Concludes image failed status
  concluded size failed status l s = (e.0, λ h. rw (check_found h) (rw l at s))

-- If something failed, the status is that failure, whatever was read.
pub not_concluded : (image : List ℕ) (failed : ℕ) → (failed ≢ 0) → Concludes image failed failed
not_concluded image failed h = ([], λ z. rw (ne_eqb failed 0 h))

-- An image of another length has the status 1, whatever the log is.
pub no_image : (image : List ℕ) (failed status : ℕ) → (length image ≢ 65536) → status ≡ first_of failed 1 → Concludes image failed status
no_image image failed status h e = ([], λ z. rw (ne_eqb (length image) 65536 h) e)
