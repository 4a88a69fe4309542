-- The check answers what the rules ask of it (P10): accepted exactly the logs, a refusal names the first bad entry, and the copy is left as the
-- accepted entries leave it.
use Rattle.std.specs.Prelude.{ℕ, suc, ◌<◌, ◌≤◌, ◌≡◌, refl, ◌↔◌, List, [], ◌∷◌, length, Option, Some, None}
use Rattle.std.proofs.Common.{ap, sym, ◌∙◌, subst, inl, inr, append-nil, arith, length-append}
use Rattle.std.proofs.Math.Decide.{ℕ_discrete}
use Rattle.laws.specs.Answers.{not_refused, memory_not_full, malformed_entry, stray_entry}
use Rattle.manual.specs.declared.Machine.{Machine}
use Rattle.manual.specs.Stepping.{full_memory}
use Rattle.text_reading.specs.Numbers.{nowhere}
use Rattle.trace_line.specs.Lines.{line_text}
use Rattle.trace_line.specs.Theorems.Lines.{line_length}
use Rattle.trace_checking.specs.Checking.{Part, Checked, part_of, checked_of, later, checked_trace}
use Rattle.trace_checking.specs.Lemmas.Turns.{short_image, short_copy}
use Rattle.trace_checking.specs.Logs.{log_text, Follow, Log, NoLine, Accepted, PartVerdict, all, malformed, astray, Verdict, not_full, accepted, bad_line_lem, bad_state}
use Rattle.trace_checking.specs.Lemmas.Accepting.{part_only, part_verdict}
use Rattle.trace_checking.specs.Theorems.Verdicts.{counted, by_part, by_lines, log_accepted}

-- there is no entry in an empty text
no_text : NoLine []
no_text t u h e = omega (arith, ap length e, length-append (line_text t) u, line_length t)

-- a log is a first entry that is accepted, and the others
log_of : (image text : List ℕ) (s : Machine) (l : List Machine) (last : Option Machine) (m' : List ℕ) → Accepted None image text (s ∷ l) last m' [] → Log image text m'
log_of image text s l last m' a = record {
  first = s;
  others = l;
  last = last;
  spellable = a.spellable;
  spelled = a.text_is ∙ append-nil (log_text (s ∷ l));
  follow = subst (λ (m : List ℕ). Follow (Some s) m l last m') (sym a.follow.1) a.follow.2;
}

module _ (image text copy : List ℕ) where
  not_full_only : ((length image ≡ full_memory) × (length copy ≡ full_memory) → ⊥) → checked_trace image text copy ≡ (checked_of memory_not_full 0, copy)
  not_full_only never = by_length (ℕ_discrete (length image) full_memory)
    where
      by_length : Dec (length image ≡ full_memory) → checked_trace image text copy ≡ (checked_of memory_not_full 0, copy)
      by_length (yes f) = short_copy image text copy f (λ h. never (f, h))
      by_length (no n) = short_image image text copy n

  module _ (full : length image ≡ full_memory) (full-copy : length copy ≡ full_memory) where
    of_part : {o : Part × List ℕ} → PartVerdict 0 None image text o → later 0 0 None image text ≡ o → Verdict image text copy (checked_trace image text copy)
    of_part (all [] last m' a q) e =
        bad_line_lem full full-copy [] last m' [] a (inr refl) no_text (by_part image text copy full full-copy (e ∙ q ∙ counted 0 0 last m'))
    of_part (all (s ∷ l) last m' a q) e =
        accepted full full-copy m' (log_of image text s l last m' a) (by_lines image text copy full full-copy (e ∙ q ∙ counted 0 (suc (length l)) last m'))
    of_part (malformed l last m' rest a some never q) e =
        bad_line_lem full full-copy l last m' rest a (inl some) never (by_part image text copy full full-copy (e ∙ q ∙ counted malformed_entry (length l) last m'))
    of_part (astray l last m' t rest a spelled never q) e =
        bad_state full full-copy l last m' t rest a spelled never (by_part image text copy full full-copy (e ∙ q ∙ counted stray_entry (length l) last m'))

  -- Whatever is answered is what the rules describe.
  pub verdict_of_lem : length text ≤ nowhere → Verdict image text copy (checked_trace image text copy)
  verdict_of_lem fits = by_image (ℕ_discrete (length image) full_memory)
    where
      by_copy : length image ≡ full_memory → Dec (length copy ≡ full_memory) → Verdict image text copy (checked_trace image text copy)
      by_copy f (yes h) = of_part f h (part_verdict 0 None image text fits) refl
      by_copy f (no n) = not_full (λ p. n p.1) (short_copy image text copy f n)

      by_image : Dec (length image ≡ full_memory) → Verdict image text copy (checked_trace image text copy)
      by_image (yes f) = by_copy f (ℕ_discrete (length copy) full_memory)
      by_image (no n) = not_full (λ p. n p.0) (short_image image text copy n)

  -- Nothing else is answered.
  pub verdict_only : (o : Checked × List ℕ) → length text ≤ nowhere → Verdict image text copy o → o ≡ checked_trace image text copy
  verdict_only o fits (not_full never g) = g ∙ sym (not_full_only never)
  verdict_only o fits (accepted f h m' log g) = g ∙ sym (log_accepted image text copy f h m' log)
  verdict_only o fits (bad_line_lem f h l last m' [] a (inl some) never g) = absurd (omega arith)
  verdict_only o fits (bad_line_lem f h [] last m' [] a (inr e) never g) =
      g
      ∙ sym (by_part image text copy f h
      (sym (part_only 0 None image text (part_of not_refused 0 last, m') fits (all [] last m' a (sym (counted 0 0 last m'))))))
  verdict_only o fits (bad_line_lem f h (s ∷ l) last m' [] a (inr e) never g) = let z : suc (length l) ≡ 0 = ap length e in absurd (omega arith)
  verdict_only o fits (bad_line_lem f h l last m' (c ∷ rest) a some never g) =
      g
      ∙ sym (by_part image text copy f h
      (sym (part_only 0 None image text (part_of malformed_entry (length l) last, m') fits
      (malformed l last m' (c ∷ rest) a (omega arith) never (sym (counted malformed_entry (length l) last m'))))))
  verdict_only o fits (bad_state f h l last m' t rest a spelled never g) =
      g
      ∙ sym (by_part image text copy f h
      (sym (part_only 0 None image text (part_of stray_entry (length l) last, m') fits
      (astray l last m' t rest a spelled never (sym (counted stray_entry (length l) last m'))))))

  -- ---- acceptance

  module _ (full : length image ≡ full_memory) (full-copy : length copy ≡ full_memory) (fits : length text ≤ nowhere) where
    other : {o : Checked × List ℕ} {answer line : ℕ} {m' : List ℕ} → 0 < answer → o ≡ (checked_of answer line, m') → o.0.answer ≡ not_refused → ⊥
    other some g z = omega (arith, sym (ap (λ (w : Checked × List ℕ). w.0.answer) g) ∙ z)

    from_verdict : (o : Checked × List ℕ) → Verdict image text copy o → o.0.answer ≡ not_refused → (m' : List ℕ) × Log image text m'
    from_verdict o (not_full never g) z = absurd (never (full, full-copy))
    from_verdict o (accepted f h m' log g) z = (m', log)
    from_verdict o (bad_line_lem f h l last m' rest a some never g) z = absurd (other (omega arith) g z)
    from_verdict o (bad_state f h l last m' t rest a spelled never g) z = absurd (other (omega arith) g z)

    -- Accepted exactly when there is at least one entry, and each later entry is the state after one step from the entry before.
    pub accepted_exactly : ((checked_trace image text copy).0.answer ≡ not_refused) ↔ ((m' : List ℕ) × Log image text m')
    accepted_exactly = (
      (λ z. from_verdict (checked_trace image text copy) (verdict_of_lem fits) z),
      (λ g. ap (λ (o : Checked × List ℕ). o.0.answer) (log_accepted image text copy full full-copy g.0 g.1)),
    )
