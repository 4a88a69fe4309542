-- What the entries of a part show, in the words of the rules.
use Rattle.std.specs.Prelude.{ℕ, zero, suc, ◌+◌, ◌<◌, ◌≤◌, ◌≡◌, refl, Bool, true, false, List, [], ◌∷◌, ◌++◌, length, drop, Option, Some, None}
use Rattle.std.proofs.Common.{ap, sym, ◌∙◌, subst, true≢false, append_assoc, arith, length-append, length-drop, drop_at}
use Rattle.laws.specs.Answers.{malformed_entry, stray_entry}
use Rattle.manual.specs.declared.Machine.{Machine}
use Rattle.text_reading.specs.Numbers.{nowhere}
use Rattle.trace_line.specs.declared.Spelled.{Spelled}
use Rattle.trace_line.specs.Fields.{line_of}
use Rattle.trace_line.specs.Lines.{Spellable, line_text}
use Rattle.trace_line.specs.Theorems.Lines as line
use Rattle.trace_step.specs.Lemmas.Following.{follows, followed_by, not_followed}
use Rattle.trace_checking.specs.Checking.{Part, part_of, accepted, if_accepted, later}
use Rattle.trace_checking.specs.Lemmas.Turns.{at_malformed, at_state, turn_end}
use Rattle.trace_checking.specs.Logs.{log_text, AllSpellable, Admits, Follow, Accepted, PartVerdict, all, malformed, astray}

-- ---- one entry

accepts : (last : Option Machine) (t : Machine) (m m' : List ℕ) → accepted last t m ≡ (true, m') → Admits last m t m'
accepts None t m m' e = ap (λ (w : Bool × List ℕ). w.1) e
accepts (Some s) t m m' e = follows s t m m' e

accepted_by : (last : Option Machine) (t : Machine) (m : List ℕ) {m' : List ℕ} → Admits last m t m' → accepted last t m ≡ (true, m')
accepted_by None t m e = ap (λ (l : List ℕ). (true, l)) e
accepted_by (Some s) t m h = followed_by s t m h

not_accepted : (last : Option Machine) (t : Machine) (m m' : List ℕ) → accepted last t m ≡ (false, m') → m' ≡ m
not_accepted None t m m' e = absurd (true≢false (ap (λ (w : Bool × List ℕ). w.0) e))
not_accepted (Some s) t m m' e = not_followed s t m m' e

not_both : (w : Bool × List ℕ) {m m' : List ℕ} → w ≡ (false, m) → w ≡ (true, m') → ⊥
not_both w e f = true≢false (sym (ap (λ (v : Bool × List ℕ). v.0) f) ∙ ap (λ (v : Bool × List ℕ). v.0) e)

-- a state that may not stand there
stays : (last : Option Machine) (t : Machine) (m : List ℕ) (w : Bool × List ℕ) → accepted last t m ≡ w → ((e : List ℕ) → Admits last m t e → ⊥)
    → w ≡ (false, m)
stays last t m (true, e) f never = absurd (never e (accepts last t m e f))
stays last t m (false, e) f never = ap (λ (l : List ℕ). (false, l)) (not_accepted last t m e f)

some_line : (t : Machine) (u : List ℕ) → 0 < length (line_text t ++ u)
some_line t u = omega (arith, length-append (line_text t) u, line.line_length t)

-- the entry of a state
at_line : (k : ℕ) (last : Option Machine) (m : List ℕ) (t : Machine) (rest : List ℕ) → Spellable t
    → later 0 k last m (line_text t ++ rest) ≡ if_accepted k last (λ m'. later 0 (k + 1) (Some t) m' rest) (accepted last t m)
at_line k last m t rest h =
    at_state k last m (line_text t ++ rest) (record { machine = t; next = length (line_text t) })
    (some_line t rest) (line.written_read t rest h) (omega (arith, line.line_length t))
    ∙ rw (drop_at (line_text t) rest (length (line_text t)) refl)

-- ---- what the rules describe is what is answered

-- over entries that follow
pub along : (l : List Machine) (k : ℕ) (last last' : Option Machine) (m m' rest : List ℕ) → AllSpellable l → Follow last m l last' m'
    → later 0 k last m (log_text l ++ rest) ≡ later 0 (k + length l) last' m' rest
along [] k last last' m m' rest h f =
    let none : k + 0 ≡ k = omega arith in
    rw (none, f.0, f.1)
along (t ∷ l) k last last' m m' rest h f =
    let one : k + 1 + length l ≡ k + suc (length l) = omega arith in
    ap (λ (u : List ℕ). later 0 k last m u) (append_assoc (line_text t) (log_text l) rest)
    ∙ at_line k last m t (log_text l ++ rest) h.0
    ∙ rw (accepted_by last t m f.1) (along l (k + 1) (Some t) last' f.0 m' rest h.1 f.2 ∙ rw one)

module _ (k : ℕ) (last : Option Machine) (m text : List ℕ) {l : List Machine} {last' : Option Machine} {m' rest : List ℕ} (a : Accepted last m text l last' m' rest) where
  pub over : later 0 k last m text ≡ later 0 (k + length l) last' m' rest
  over = ap (λ (u : List ℕ). later 0 k last m u) a.text_is ∙ along l k last last' m m' rest a.spellable a.follow

  -- what follows the accepted entries is no longer than all of it
  pub rest_fits : length text ≤ nowhere → length rest ≤ nowhere
  rest_fits fits = omega (arith, ap length a.text_is, length-append (log_text l) rest)

pub astray_line : (k : ℕ) (last : Option Machine) (m : List ℕ) (t : Machine) (rest : List ℕ) → Spellable t → ((e : List ℕ) → Admits last m t e → ⊥)
    → later 0 k last m (line_text t ++ rest) ≡ (part_of stray_entry k last, m)
astray_line k last m t rest h never =
    at_line k last m t rest h
    ∙ ap (if_accepted k last (λ m'. later 0 (k + 1) (Some t) m' rest)) (stays last t m (accepted last t m) refl never)

pub part_only : (k : ℕ) (last : Option Machine) (m text : List ℕ) (o : Part × List ℕ) → length text ≤ nowhere → PartVerdict k last m text o → o ≡ later 0 k last m text
part_only k last m text o fits (all l last' m' a g) =
    g ∙ sym (over k last m text a ∙ turn_end [] 0 (k + length l) last' m' (omega arith))
part_only k last m text o fits (malformed l last' m' rest a some never g) =
    g
    ∙ sym (over k last m text a
    ∙ at_malformed (k + length l) last' m' rest some ((line.malformed rest (rest_fits k last m text a fits)).1 never))
part_only k last m text o fits (astray l last' m' t rest a spelled never g) =
    g ∙ sym (over k last m text a ∙ astray_line (k + length l) last' m' t rest spelled never)

-- ---- and it is always one of these

one_more : (k : ℕ) (last : Option Machine) (t : Machine) (m m₁ text rest : List ℕ) (o : Part × List ℕ) → Spellable t → Admits last m t m₁
    → text ≡ line_text t ++ rest → PartVerdict (k + 1) (Some t) m₁ rest o → PartVerdict k last m text o
one_more k last t m m₁ text rest o h g e v = go v
  where
    longer : {l : List Machine} {last' : Option Machine} {m' tail : List ℕ} → Accepted (Some t) m₁ rest l last' m' tail → Accepted last m text (t ∷ l) last' m' tail
    longer {l} {last'} {m'} {tail} a = record {
      spellable = (h, a.spellable);
      follow = (m₁, g, a.follow);
      text_is = e ∙ ap (λ (u : List ℕ). line_text t ++ u) a.text_is ∙ sym (append_assoc (line_text t) (log_text l) tail);
    }

    counted : (answer n : ℕ) (last' : Option Machine) (m' : List ℕ) → o ≡ (part_of answer (k + 1 + n) last', m') → o ≡ (part_of answer (k + suc n) last', m')
    counted answer n last' m' q =
        let count : k + 1 + n ≡ k + suc n = omega arith in
        q ∙ ap (λ (j : ℕ). (part_of answer j last', m')) count

    go : PartVerdict (k + 1) (Some t) m₁ rest o → PartVerdict k last m text o
    go (all l last' m' a q) = all (t ∷ l) last' m' (longer a) (counted 0 (length l) last' m' q)
    go (malformed l last' m' tail a some never q) = malformed (t ∷ l) last' m' tail (longer a) some never (counted malformed_entry (length l) last' m' q)
    go (astray l last' m' v tail a spelled never q) = astray (t ∷ l) last' m' v tail (longer a) spelled never (counted stray_entry (length l) last' m' q)

-- no entry is accepted
none : (last : Option Machine) (m text : List ℕ) → Accepted last m text [] last m text
none last m text = record { spellable = tt; follow = (refl, refl); text_is = refl }

-- one entry, the check of what follows being known
module _ (n k : ℕ) (last : Option Machine) (m text : List ℕ) (short : length text < suc n) (fits : length text ≤ nowhere) (some : 0 < length text)
    (further : (t : Machine) (m₁ u : List ℕ) → length u < n → length u ≤ nowhere → PartVerdict (k + 1) (Some t) m₁ u (later 0 (k + 1) (Some t) m₁ u)) where
  by_state : (q : Spelled) → line_of text ≡ Some q → (w : Bool × List ℕ) → accepted last q.machine m ≡ w → PartVerdict k last m text (later 0 k last m text)
  by_state q e (true, m₁) f =
      let written = line.read_written text fits q e in
      let long : 0 < q.next = omega (arith, written.size, line.line_length q.machine) in
      let left = length-drop q.next text in
      let answer : later 0 k last m text ≡ later 0 (k + 1) (Some q.machine) m₁ (drop q.next text) = at_state k last m text q some e long ∙ rw f in
      subst (λ (o : Part × List ℕ). PartVerdict k last m text o) (sym answer)
      (one_more k last q.machine m m₁ text (drop q.next text) _ written.spellable (accepts last q.machine m m₁ f) written.text
      (further q.machine m₁ (drop q.next text) (omega (arith, left, long)) (omega (arith, left))))
  by_state q e (false, m₁) f =
      let written = line.read_written text fits q e in
      let long : 0 < q.next = omega (arith, written.size, line.line_length q.machine) in
      let answer : later 0 k last m text ≡ (part_of stray_entry k last, m₁) = at_state k last m text q some e long ∙ rw f in
      let count : k + 0 ≡ k = omega arith in
      astray [] last m q.machine (drop q.next text) (record { spellable = tt; follow = (refl, refl); text_is = written.text }) written.spellable
      (λ e' g. not_both (accepted last q.machine m) f (accepted_by last q.machine m g))
      (answer ∙ rw (count, not_accepted last q.machine m m₁ f))

  by_line : (r : Option Spelled) → line_of text ≡ r → PartVerdict k last m text (later 0 k last m text)
  by_line None e =
      let count : k + 0 ≡ k = omega arith in
      malformed [] last m text (none last m text) some ((line.malformed text fits).0 e) (at_malformed k last m text some e ∙ rw count)
  by_line (Some q) e = by_state q e (accepted last q.machine m) refl

-- `n` bounds the length of the text
verdict_within : (n k : ℕ) (last : Option Machine) (m text : List ℕ) → length text < n → length text ≤ nowhere → PartVerdict k last m text (later 0 k last m text)
verdict_within zero k last m text h fits = absurd (omega arith)
verdict_within (suc n) k last m [] h fits =
    let count : k + 0 ≡ k = omega arith in
    all [] last m (none last m []) (turn_end [] 0 k last m (omega arith) ∙ rw count)
verdict_within (suc n) k last m (c ∷ u) h fits =
    by_line n k last m (c ∷ u) h fits (omega arith) (λ t m₁ v. verdict_within n (k + 1) (Some t) m₁ v) (line_of (c ∷ u)) refl

-- Whatever is answered of a part is what the rules describe, and nothing else is.
pub part_verdict : (k : ℕ) (last : Option Machine) (m text : List ℕ) → length text ≤ nowhere → PartVerdict k last m text (later 0 k last m text)
part_verdict k last m text fits = verdict_within (suc (length text)) k last m text (omega arith) fits
