-- What is dropped: each `;` that begins neither a data record that is kept nor a good end record, by the grammar.
use Rattle.std.specs.Prelude.{ℕ, zero, suc, ◌+◌, ◌*◌, ◌<◌, ◌≤◌, ◌≡◌, refl, Bool, true, false, cond, List, [], ◌∷◌, ◌++◌, eqb, length, get_or, drop}
use Rattle.std.proofs.Common.{ap, sym, ◌∙◌, arith, eq-eqb, eqb-true}
use Rattle.std.proofs.Math.Option.{Option, none, some}
use Rattle.tape_records.specs.Records.{record_of, address}
use Rattle.tape_records.specs.Lemmas.Whole.{never}
use Rattle.tape_records.specs.Contents.{Stretch, Item, stretch, finish, bad}
use Rattle.tape_records.specs.Grammar.{Fit}
use Rattle.tape_paper.specs.Tapes.{judge, tape_item}
use Rattle.tape_paper.specs.Grammar.{record_text}
use Rattle.tape_paper.specs.Lemmas.Lawful.{tape_lawful}
use Rattle.tape_rescuing.specs.Rescuing.{worth, found, saved}
use Rattle.tape_rescuing.specs.Lemmas.Worth.{item_worth_stretch, item_worth_finish, worth_item}

-- d is the text of a data record of the grammar, and t begins with it, whatever stands after it
abbrev pub Begins : List ℕ → List ℕ → Type 0
Begins d t = (r : Stretch) × (rest : List ℕ) × Fit r × (d ≡ record_text r.first r.bytes) × (t ≡ d ++ rest)

-- a data record begins at an offset, and an end record with any number
abbrev pub KeptAt : List ℕ → ℕ → Type 0
KeptAt s i = (d : List ℕ) × Begins d (drop i s)

abbrev pub EndAt : List ℕ → ℕ → Type 0
EndAt s i = (k : ℕ) × (rest : List ℕ) × (k < 65536) × (drop i s ≡ record_text k [] ++ rest)

abbrev is_bad : Item → Bool
is_bad (bad reason) = true
is_bad finish = false
is_bad (stretch r) = false

-- whether the character at an offset is a lost `;`
abbrev pub lost : List ℕ → ℕ → Bool
lost s i = cond (eqb (get_or s i 0) 59) (is_bad (worth (record_of 59 (drop i s)))) false

-- how many numbers below n pass a test
abbrev pub number_of : (ℕ → Bool) → ℕ → ℕ
number_of test zero = 0
number_of test (suc n) = cond (test 0) 1 0 + number_of (λ i. test (suc i)) n

worth_finished : (o : Option (List ℕ)) → worth o ≡ finish → (k : ℕ) × (judge k o ≡ finish)
worth_finished none e = never (cc)
worth_finished (some bs) e = (address bs, e)

finished_item : (t : List ℕ) → worth (record_of 59 t) ≡ finish → (k : ℕ) × (tape_item k t ≡ finish)
unfolding tape_item
finished_item t e = worth_finished (record_of 59 t) e

-- what begins with a data record is worth it, and the other way round
pub begins_worth : (d t : List ℕ) (h : Begins d t) → worth (record_of 59 t) ≡ stretch h.0
begins_worth d t (r, rest, fit, spelling, e) =
    let begins : t ≡ record_text r.first r.bytes ++ rest = e ∙ ap (λ (d : List ℕ). d ++ rest) spelling in
    rw begins (item_worth_stretch 0 (record_text r.first r.bytes ++ rest) r (tape_lawful.data_read 0 r (record_text r.first r.bytes) rest (fit, refl)))

pub worth_begins : (t : List ℕ) (r : Stretch) → worth (record_of 59 t) ≡ stretch r → Begins (record_text r.first r.bytes) t
worth_begins t r f =
    let back = tape_lawful.data_back 0 r t (worth_item 0 t r f) in
    let after = drop (11 + 2 * length r.bytes) t in
    (r, after, back.1.0, refl, back.2 ∙ ap (λ (u : List ℕ). u ++ after) back.1.1)

module _ (s : List ℕ) (i : ℕ) where
  kept_worth : KeptAt s i → is_bad (worth (record_of 59 (drop i s))) ≡ false
  kept_worth (d, h) = rw (begins_worth d (drop i s) h)

  end_worth : EndAt s i → is_bad (worth (record_of 59 (drop i s))) ≡ false
  end_worth (k, rest, h, e) =
      rw (e, item_worth_finish k (record_text k [] ++ rest) (tape_lawful.end_read k (record_text k []) rest (h, refl)))

  -- A lost `;` is one that begins neither, and each such one is lost.
  pub lost_begins_neither : lost s i ≡ true → (get_or s i 0 ≡ 59) × (KeptAt s i → ⊥) × (EndAt s i → ⊥)
  lost_begins_neither e = by_mark (eqb (get_or s i 0) 59) refl e
    where
      by_mark : (b : Bool) → eqb (get_or s i 0) 59 ≡ b → cond b (is_bad (worth (record_of 59 (drop i s)))) false ≡ true
          → (get_or s i 0 ≡ 59) × (KeptAt s i → ⊥) × (EndAt s i → ⊥)
      by_mark true f g = (eqb-true (get_or s i 0) 59 f, (λ k. never (let z : false ≡ true = sym (kept_worth k) ∙ g in cc)), (λ k. never (let z : false ≡ true = sym (end_worth k) ∙ g in cc)))
      by_mark false f g = never (cc)

  pub neither_is_lost : get_or s i 0 ≡ 59 → (KeptAt s i → ⊥) → (EndAt s i → ⊥) → lost s i ≡ true
  neither_is_lost e no-data no_end = rw (eq-eqb (get_or s i 0) 59 e) (by_item (worth (record_of 59 (drop i s))) refl)
    where
      by_item : (x : Item) → worth (record_of 59 (drop i s)) ≡ x → is_bad x ≡ true
      by_item (bad reason) f = refl
      by_item finish f =
          let ends = finished_item (drop i s) f in
          let back = tape_lawful.end_back ends.0 (drop i s) ends.1 in
          absurd (no_end (ends.0, drop 11 (drop i s), back.1.0, back.2 ∙ ap (λ (t : List ℕ). t ++ drop 11 (drop i s)) back.1.1))
      by_item (stretch r) f = absurd (no-data (record_text r.first r.bytes, worth_begins (drop i s) r f))

dropped_from : (at : ℕ) (s : List ℕ) → (saved at s).dropped ≡ number_of (lost s) (length s)
dropped_from at [] = refl
dropped_from at (c ∷ s) = by_item (eqb c 59) (worth (record_of 59 (c ∷ s))) ∙ ap (λ (n : ℕ). cond (lost (c ∷ s) 0) 1 0 + n) (dropped_from (suc at) s)
  where
    by_item : (b : Bool) (x : Item)
        → (cond b (found at x (saved (suc at) s)) (saved (suc at) s)).dropped ≡ cond (cond b (is_bad x) false) 1 0 + (saved (suc at) s).dropped
    by_item true (bad reason) = omega arith
    by_item true finish = omega arith
    by_item true (stretch r) = omega arith
    by_item false x = omega arith

-- The number dropped is that of the lost ones.
pub dropped_are_lost : (s : List ℕ) → (saved 0 s).dropped ≡ number_of (lost s) (length s)
dropped_are_lost s = dropped_from 0 s

-- the first lost one, j characters on from `at`; the text's length if there is none
pub record FirstLost (at : ℕ) (s : List ℕ) (first j : ℕ) : Type 0 where
  pub offset : first ≡ at + j
  pub inside : j ≤ length s
  pub none_before : (i : ℕ) → i < j → lost s i ≡ false
  pub there : j < length s → lost s j ≡ true

first_from : (at : ℕ) (s : List ℕ) → (j : ℕ) × FirstLost at s (saved at s).first j
first_from at [] = (0, record { offset = omega arith; inside = omega arith; none_before = λ i h. absurd (omega arith); there = λ h. absurd (omega arith) })
first_from at (c ∷ s) = by_item (eqb c 59) (worth (record_of 59 (c ∷ s))) refl refl (first_from (suc at) s)
  where
    later : lost (c ∷ s) 0 ≡ false → (first : ℕ) → (j : ℕ) × FirstLost (suc at) s first j → (j : ℕ) × FirstLost at (c ∷ s) first j
    later e first (j, f) = (
      suc j,
      record {
        offset = omega (arith, f.offset);
        inside = omega (arith, f.inside);
        none_before = earlier;
        there = λ h. f.there (omega arith);
      },
    )
      where
        earlier : (i : ℕ) → i < suc j → lost (c ∷ s) i ≡ false
        earlier zero h = e
        earlier (suc i) h = f.none_before i (omega arith)

    by_item : (b : Bool) (x : Item) → eqb c 59 ≡ b → worth (record_of 59 (c ∷ s)) ≡ x → (j : ℕ) × FirstLost (suc at) s (saved (suc at) s).first j
        → (j : ℕ) × FirstLost at (c ∷ s) (cond b (found at x (saved (suc at) s)) (saved (suc at) s)).first j
    by_item true (bad reason) e f rest =
        (0, record { offset = omega arith; inside = omega arith; none_before = λ i h. absurd (omega arith); there = λ h. rw (e, f) })
    by_item true finish e f rest = later (rw (e, f)) (saved (suc at) s).first rest
    by_item true (stretch r) e f rest = later (rw (e, f)) (saved (suc at) s).first rest
    by_item false x e f rest = later (rw e) (saved (suc at) s).first rest

-- The offset is that of the first lost one, and the text's length if none is lost.
pub first_is_lost : (s : List ℕ) → FirstLost 0 s (saved 0 s).first (saved 0 s).first
first_is_lost s = by_offset (first_from 0 s)
  where
    by_offset : (j : ℕ) × FirstLost 0 s (saved 0 s).first j → FirstLost 0 s (saved 0 s).first (saved 0 s).first
    by_offset (j, f) = let same : j ≡ (saved 0 s).first = omega (arith, f.offset) in rw same at f
