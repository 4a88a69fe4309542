-- What is kept (P7): the data records of the grammar that begin anywhere in the text, in the order of their places, each spelled as it stands
-- there.
use Rattle.std.specs.Prelude.{ℕ, suc, ◌+◌, ◌≡◌, refl, Bool, true, false, cond, List, [], ◌∷◌, ◌++◌, eqb, length, get_or}
use Rattle.std.proofs.Common.{ap, sym, ◌∙◌, eq-eqb}
use Rattle.laws.specs.Answers.{not_refused}
use Rattle.tape_records.specs.Records.{record_of}
use Rattle.tape_records.specs.Lemmas.Whole.{never}
use Rattle.tape_records.specs.Contents.{Item, stretch, finish, bad}
use Rattle.tape_records.specs.Grammar.{newline}
use Rattle.tape_paper.specs.Grammar.{record_text, tape_text}
use Rattle.tape_rescuing.specs.Rescuing.{worth, found, saved, Outcome, rescued}
use Rattle.tape_rescuing.specs.Theorems.Losses.{Begins, begins_worth, worth_begins}
use Rattle.tape_rescuing.specs.Lemmas.Outcomes.{answered}
use Rattle.tape_rescuing.specs.Theorems.Buffers.{written, its_text}

-- Rescues n s k t: the k data records that begin in s, place by place and spelled as they stand there, each with CR LF, and then an end record,
-- are the text t, after n others
pub data Rescues : ℕ → List ℕ → ℕ → List ℕ → Type 0 where
  over : {n : ℕ} → Rescues n [] 0 (record_text n [] ++ newline)
  here : {n c k : ℕ} {s d t : List ℕ} → Begins d (c ∷ s) → Rescues (n + 1) s k t → Rescues n (c ∷ s) (suc k) (d ++ newline ++ t)
  none : {n c k : ℕ} {s t : List ℕ} → ((d : List ℕ) → Begins d (c ∷ s) → ⊥) → Rescues n s k t → Rescues n (c ∷ s) k t

-- a data record begins with `;`
begins_mark : (c : ℕ) (s d : List ℕ) → Begins d (c ∷ s) → eqb c 59 ≡ true
begins_mark c s d (r, rest, fit, spelling, e) =
    eq-eqb c 59 (ap (λ (t : List ℕ). get_or t 0 0) (e ∙ ap (λ (d : List ℕ). d ++ rest) spelling))

kept_from : (at n : ℕ) (s : List ℕ) → Rescues n s (length (saved at s).records) (tape_text n (saved at s).records)
kept_from at n [] = over
kept_from at n (c ∷ s) = by_item (eqb c 59) (worth (record_of 59 (c ∷ s))) refl refl (kept_from (suc at) n s) (kept_from (suc at) (n + 1) s)
  where
    by_item : (b : Bool) (x : Item) → eqb c 59 ≡ b → worth (record_of 59 (c ∷ s)) ≡ x
        → Rescues n s (length (saved (suc at) s).records) (tape_text n (saved (suc at) s).records)
        → Rescues (n + 1) s (length (saved (suc at) s).records) (tape_text (n + 1) (saved (suc at) s).records)
        → Rescues n (c ∷ s) (length (cond b (found at x (saved (suc at) s)) (saved (suc at) s)).records) (tape_text n (cond b (found at x (saved (suc at) s)) (saved (suc at) s)).records)
    by_item true (stretch r) e f same more = here (worth_begins (c ∷ s) r f) more
    by_item true finish e f same more = none (λ d h. never (let z : stretch h.0 ≡ finish = sym (begins_worth d (c ∷ s) h) ∙ f in cc)) same
    by_item true (bad reason) e f same more = none (λ d h. never (let z : stretch h.0 ≡ bad reason = sym (begins_worth d (c ∷ s) h) ∙ f in cc)) same
    by_item false x e f same more = none (λ d h. never (let z : true ≡ false = sym (begins_mark c s d h) ∙ e in cc)) same

-- What a rescue that is not refused writes is these records, in order and unchanged, with CR LF and a fresh end record, and it counts them.
pub kept_there : (s buffer : List ℕ) → (rescued s buffer).answer ≡ not_refused → Rescues 0 s (rescued s buffer).kept (written (rescued s buffer))
kept_there s buffer good =
    let count : (rescued s buffer).kept ≡ length (saved 0 s).records = ap (λ (x : Outcome). x.kept) (answered s buffer good).2 in
    rw (its_text s buffer good, count) (kept_from 0 0 s)
