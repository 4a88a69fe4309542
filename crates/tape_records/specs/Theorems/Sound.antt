-- What is accepted is a text by the grammar, with the records that it was read as. Once for every format.
use Rattle.std.specs.Prelude.{◌≡◌, ℕ, zero, suc, ◌+◌, ◌*◌, Bool, true, false, cond, List, [], ◌∷◌, length, drop, refl}
use Rattle.std.proofs.Common.{ap, arith}
use Rattle.laws.specs.Answers.{not_refused}
use Rattle.tape_records.specs.Records.{separator}
use Rattle.tape_records.specs.Contents.{Stretch, Item, stretch, finish, bad, Contents, ended, judged, contents}
use Rattle.tape_records.specs.Lemmas.Gaps.{well_ended}
use Rattle.tape_records.specs.Grammar.{Text}
use Rattle.tape_records.specs.Inner.Lawful.{Lawful}

module _ (item : ℕ → List ℕ → Item) (Data : ℕ → Stretch → List ℕ → Type 0) (End : ℕ → List ℕ → Type 0) (lawful : Lawful item Data End) where
  longer_gap : (before : ℕ) (rs : List Stretch) (c : ℕ) (s : List ℕ) → separator c ≡ true → Text Data End before rs s → Text Data End before rs (c ∷ s)
  longer_gap before [] c s e t = (c ∷ t.0, t.1, t.2, rw e t.3, t.4, t.5, ap (λ (l : List ℕ). c ∷ l) t.6)
  longer_gap before (r ∷ rs) c s e t = (c ∷ t.0, t.1, t.2, rw e t.3, t.4, t.5, ap (λ (l : List ℕ). c ∷ l) t.6)

  abbrev Sound : ℕ → List ℕ → Contents → Type 0
  Sound before s t = t.answer ≡ not_refused → Text Data End before t.records s

  module _ (c : ℕ) (s : List ℕ) (sound : (passed before : ℕ) → Sound before (drop passed s) (contents item passed before s)) (before : ℕ) where
    abbrev further : ℕ → Contents
    further passed = contents item passed (before + 1) s

    by_end : item before (c ∷ s) ≡ finish → Sound before (c ∷ s) (ended (before + 1) (drop 11 (c ∷ s)))
    by_end e z =
        let back = lawful.end_back before (c ∷ s) e in
        let well = well_ended (before + 1) (drop 11 (c ∷ s)) z in
        rw well.1 ([], back.0, drop 11 (c ∷ s), refl, back.1, well.0, back.2)

    by_item : (i : Item) → item before (c ∷ s) ≡ i → Sound before (c ∷ s) (judged i before (c ∷ s) further)
    by_item (bad reason) e z = absurd (omega (arith, lawful.bad_back before (c ∷ s) reason e))
    by_item finish e z = by_end e z
    by_item (stretch r) e z =
        let back = lawful.data_back before r (c ∷ s) e in
        let one : 11 + 2 * length r.bytes ≡ suc (10 + 2 * length r.bytes) = omega arith in
        ([], back.0, drop (10 + 2 * length r.bytes) s, refl, back.1, sound (10 + 2 * length r.bytes) (before + 1) z, rw one at back.2)

    by_character : (b : Bool) → separator c ≡ b
        → Sound before (c ∷ s) (cond b (contents item 0 before s) (judged (item before (c ∷ s)) before (c ∷ s) further))
    by_character true e z = longer_gap before (contents item 0 before s).records c s e (sound 0 before z)
    by_character false e z = by_item (item before (c ∷ s)) refl z

  sound_from : (s : List ℕ) (passed before : ℕ) → Sound before (drop passed s) (contents item passed before s)
  sound_from [] passed before z = absurd (omega arith)
  sound_from (c ∷ s) (suc passed) before z = sound_from s passed before z
  sound_from (c ∷ s) zero before z = by_character c s (sound_from s) before (separator c) refl z

  pub accepted_by_grammar : (s : List ℕ) → (contents item 0 0 s).answer ≡ not_refused → Text Data End 0 (contents item 0 0 s).records s
  accepted_by_grammar s z = sound_from s 0 0 z
