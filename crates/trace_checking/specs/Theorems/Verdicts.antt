-- The check accepts a log, and the copy is left as its entries leave it (P10); and it has one answer. That it accepts nothing else, and that a
-- refusal names the first bad entry, is in proofs/Verdicts.antt.
use Rattle.std.specs.Prelude.{ℕ, suc, ◌+◌, ◌≡◌, refl, List, [], ◌∷◌, length, Option, None, Result, Ok, Err}
use Rattle.std.proofs.Common.{ap, sym, ◌∙◌, append-nil, arith, ne_eqb}
use Rattle.laws.specs.Answers.{not_refused}
use Rattle.laws.specs.declared.answers.Refusal.{Refusal}
use Rattle.text_writing.specs.Lemmas.Refusals.{never_good, one_refusal}
use Rattle.text_writing.specs.Lemmas.Answered.{one_answer}
use Rattle.manual.specs.Stepping.{full_memory}
use Rattle.manual.specs.declared.Machine.{Machine}
use Rattle.trace_checking.specs.declared.Part.{Part as Shown}
use Rattle.trace_checking.specs.declared.Bad.{Bad}
use Rattle.trace_checking.specs.Checking.{Part, Checked, part_of, checked_of, part_numbers, checked_numbers, later, closed, closing, checked_part, checked_trace}
use Rattle.trace_checking.specs.Lemmas.Turns.{turn_end, both_full}
use Rattle.trace_checking.specs.Logs.{log_text, Log, Accepted}
use Rattle.trace_checking.specs.Lemmas.Accepting.{over}

lines_of : (image text m' : List ℕ) (g : Log image text m') → Accepted None image text (g.first ∷ g.others) g.last m' []
lines_of image text m' g = record {
  spellable = g.spellable;
  follow = (image, refl, g.follow);
  text_is = g.spelled ∙ sym (append-nil (log_text (g.first ∷ g.others)));
}

-- the answer of all entries as one part
pub counted : (answer n : ℕ) (last : Option Machine) (m : List ℕ) → ◌≡◌ {A = Part × List ℕ} (part_of answer (0 + n) last, m) (part_of answer n last, m)
counted answer n last m = let count : 0 + n ≡ n = omega arith in ap (λ (k : ℕ). (part_of answer k last, m)) count

module _ (image text copy : List ℕ) where
  module _ (full : length image ≡ full_memory) (full-copy : length copy ≡ full_memory) where
    -- by what all entries as one part show
    pub by_part : {answer n : ℕ} {last : Option Machine} {m' : List ℕ} → later 0 0 None image text ≡ (part_of answer n last, m')
        → checked_trace image text copy ≡ (closed answer n, m')
    by_part e = both_full image text copy full full-copy ∙ ap closing e

    -- at least one entry
    pub by_lines : {n : ℕ} {last : Option Machine} {m' : List ℕ} → later 0 0 None image text ≡ (part_of not_refused (suc n) last, m')
        → checked_trace image text copy ≡ (checked_of not_refused 0, m')
    by_lines {n} e = by_part e ∙ rw (ne_eqb (suc n) 0 (λ z. omega arith))

    -- A log is accepted, and the copy is left as its last entry leaves it.
    pub log_accepted : (m' : List ℕ) → Log image text m' → checked_trace image text copy ≡ (checked_of not_refused 0, m')
    log_accepted m' g =
        let n = length g.others in
        by_lines
        (over 0 None image text (lines_of image text m' g) ∙ turn_end [] 0 (0 + suc n) g.last m' (omega arith) ∙ counted 0 (suc n) g.last m')

-- The promise admits one result only, and that of a part too.
one : {A : Type 0} {p q : A} {m n : List ℕ} {w : A × List ℕ} → (p, m) ≡ w → (q, n) ≡ w → (p ≡ q) × (m ≡ n)
one e g = let same = e ∙ sym g in (ap (λ (v : _ × List ℕ). v.0) same, ap (λ (v : _ × List ℕ). v.1) same)

pub one_check : (r₁ r₂ : Checked) (image text copy : List ℕ) {e₁ e₂ : List ℕ}
    → (r₁, e₁) ≡ checked_trace image text copy → (r₂, e₂) ≡ checked_trace image text copy → (r₁ ≡ r₂) × (e₁ ≡ e₂)
one_check r₁ r₂ image text copy p q = one p q

pub one_part : (r₁ r₂ : Part) (last : Option Machine) (m text : List ℕ) {e₁ e₂ : List ℕ}
    → (r₁, e₁) ≡ later 0 0 last m text → (r₂, e₂) ≡ later 0 0 last m text → (r₁ ≡ r₂) × (e₁ ≡ e₂)
one_part r₁ r₂ last m text p q = one p q

-- And so does what the code answers: its numbers are one, and they say all of it.
abbrev bad_of : Refusal → ℕ → Bad
bad_of refusal line = record { refusal = refusal; line = line }

abbrev shown_of : Option Refusal → ℕ → Option Machine → Shown
shown_of refusal lines last = record { refusal = refusal; lines = lines; last = last }

pub one_bad : (r₁ r₂ : Result Unit Bad) → checked_numbers r₁ ≡ checked_numbers r₂ → r₁ ≡ r₂
one_bad (Ok u) (Ok v) e = refl
one_bad (Ok u) (Err b) e = absurd (never_good b.refusal (sym (ap (λ (c : Checked). c.answer) e)))
one_bad (Err a) (Ok v) e = absurd (never_good a.refusal (ap (λ (c : Checked). c.answer) e))
one_bad (Err a) (Err b) e =
    let refusal : a.refusal ≡ b.refusal = one_refusal a.refusal b.refusal (ap (λ (c : Checked). c.answer) e) in
    let line : a.line ≡ b.line = ap (λ (c : Checked). c.line) e in
    ap (λ (bad : Bad). Err bad) (ap (λ (r : Refusal). bad_of r a.line) refusal ∙ ap (bad_of b.refusal) line)

pub one_shown : (p q : Shown) → part_numbers p ≡ part_numbers q → p ≡ q
one_shown p q e =
    let refusal : p.refusal ≡ q.refusal = one_answer p.refusal q.refusal (ap (λ (c : Part). c.answer) e) in
    let lines : p.lines ≡ q.lines = ap (λ (c : Part). c.lines) e in
    let last : p.last ≡ q.last = ap (λ (c : Part). c.last) e in
    ap (λ (r : Option Refusal). shown_of r p.lines p.last) refusal ∙ ap (λ (n : ℕ). shown_of q.refusal n p.last) lines
    ∙ ap (shown_of q.refusal q.lines) last

pub one_checked : (r₁ r₂ : Result Unit Bad) (image text copy : List ℕ) {e₁ e₂ : List ℕ}
    → (checked_numbers r₁, e₁) ≡ checked_trace image text copy → (checked_numbers r₂, e₂) ≡ checked_trace image text copy → (r₁ ≡ r₂) × (e₁ ≡ e₂)
one_checked r₁ r₂ image text copy p q = let same = one p q in (one_bad r₁ r₂ same.0, same.1)

pub one_part_shown : (p q : Shown) (last : Option Machine) (m text : List ℕ) {e₁ e₂ : List ℕ}
    → (part_numbers p, e₁) ≡ checked_part last m text → (part_numbers q, e₂) ≡ checked_part last m text → (p ≡ q) × (e₁ ≡ e₂)
one_part_shown p q last m text a b = let same = one a b in (one_shown p q same.0, same.1)
