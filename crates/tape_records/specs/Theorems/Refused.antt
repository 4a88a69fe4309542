-- Where a text is refused: up to there it is good records by the grammar, and there it is bad. Once for every format.
use Rattle.std.specs.Prelude.{◌≡◌, ℕ, zero, suc, ◌+◌, ◌*◌, ◌<◌, Bool, true, false, cond, ◌⊎◌, List, [], ◌∷◌, ◌++◌, length, drop, ◌≢◌, slice_index, refl}
use Rattle.std.proofs.Common.{ap, sym, ◌∙◌, append_assoc, inl, inr, arith}
use Rattle.std.proofs.Math.Seq.{drop-nil}
use Rattle.laws.specs.Answers.{not_refused, malformed_record, no_end}
use Rattle.tape_records.specs.Records.{separator}
use Rattle.tape_records.specs.Contents.{Stretch, Item, stretch, finish, bad, Contents, stop, ended, judged, contents}
use Rattle.tape_records.specs.Grammar.{Gap}
use Rattle.tape_records.specs.Inner.Lawful.{Lawful}

module _ (item : ℕ → List ℕ → Item) (Data : ℕ → Stretch → List ℕ → Type 0) (End : ℕ → List ℕ → Type 0) where
  -- f is a gap and a data record each, and a gap, after so many other data records
  abbrev pub Front : ℕ → List Stretch → List ℕ → Type 0
  Front before [] f = Gap f
  Front before (r ∷ rs) f = (g : List ℕ) × (d : List ℕ) × (t : List ℕ) × Gap g × Data before r d × Front (before + 1) rs t × (f ≡ g ++ (d ++ t))

  -- after the front stands a bad record, or nothing
  pub record BadRecord (before : ℕ) (s : List ℕ) (c : Contents) : Type 0 where
    pub front : List ℕ
    pub rest : List ℕ
    pub good_front : Front before c.records front
    pub text : s ≡ front ++ rest
    pub size : length rest ≡ c.left
    pub counted : c.good ≡ before + length c.records
    pub reason : (item c.good rest ≡ bad c.answer) ⊎ ((rest ≡ []) × (c.answer ≡ no_end))

  -- after the front stand a good end record, a gap, and a character that is no separator
  pub record Stray (before : ℕ) (s : List ℕ) (c : Contents) : Type 0 where
    pub front : List ℕ
    pub last : List ℕ
    pub gap : List ℕ
    pub rest : List ℕ
    pub good_front : Front before c.records front
    pub good_end : End (before + length c.records) last
    pub good_gap : Gap gap
    pub text : s ≡ front ++ (last ++ (gap ++ rest))
    pub size : length rest ≡ c.left
    pub counted : c.good ≡ before + length c.records + 1
    pub there : (0 < length rest) × (separator (slice_index rest 0) ≡ false)
    pub reason : c.answer ≡ malformed_record

  abbrev pub Refused : ℕ → List ℕ → Contents → Type 0
  Refused before s c = BadRecord before s c ⊎ Stray before s c

  longer_front : (before : ℕ) (rs : List Stretch) (c : ℕ) (f : List ℕ) → separator c ≡ true → Front before rs f → Front before rs (c ∷ f)
  longer_front before [] c f e t = rw e t
  longer_front before (r ∷ rs) c f e t = (c ∷ t.0, t.1, t.2, rw e t.3, t.4, t.5, ap (λ (l : List ℕ). c ∷ l) t.6)

  after_separator : (before : ℕ) (c : ℕ) (s : List ℕ) (x : Contents) → separator c ≡ true → Refused before s x → Refused before (c ∷ s) x
  after_separator before c s x e (inl b) =
      inl (record {
        front = c ∷ b.front;
        rest = b.rest;
        good_front = longer_front before x.records c b.front e b.good_front;
        text = ap (λ (l : List ℕ). c ∷ l) b.text;
        size = b.size;
        counted = b.counted;
        reason = b.reason;
      })
  after_separator before c s x e (inr b) =
      inr (record {
        front = c ∷ b.front;
        last = b.last;
        gap = b.gap;
        rest = b.rest;
        good_front = longer_front before x.records c b.front e b.good_front;
        good_end = b.good_end;
        good_gap = b.good_gap;
        text = ap (λ (l : List ℕ). c ∷ l) b.text;
        size = b.size;
        counted = b.counted;
        there = b.there;
        reason = b.reason;
      })

  -- one data record more, which stands at the head
  module _ (before : ℕ) (r : Stretch) (d t s : List ℕ) (x : Contents) (good : Data before r d) (e : s ≡ d ++ t) where
    abbrev y : Contents
    y = record { records = r ∷ x.records; answer = x.answer; good = x.good; left = x.left }

    one_more : before + 1 + length x.records ≡ before + suc (length x.records)
    one_more = omega arith

    after_record : Refused (before + 1) t x → Refused before s y
    after_record (inl b) =
        inl (record {
          front = d ++ b.front;
          rest = b.rest;
          good_front = ([], d, b.front, refl, good, b.good_front, refl);
          text = e ∙ ap (λ (l : List ℕ). d ++ l) b.text ∙ sym (append_assoc d b.front b.rest);
          size = b.size;
          counted = b.counted ∙ one_more;
          reason = b.reason;
        })
    after_record (inr b) =
        inr (record {
          front = d ++ b.front;
          last = b.last;
          gap = b.gap;
          rest = b.rest;
          good_front = ([], d, b.front, refl, good, b.good_front, refl);
          good_end = rw one_more at b.good_end;
          good_gap = b.good_gap;
          text = e ∙ ap (λ (l : List ℕ). d ++ l) b.text ∙ sym (append_assoc d b.front (b.last ++ (b.gap ++ b.rest)));
          size = b.size;
          counted = b.counted ∙ ap (λ (n : ℕ). n + 1) one_more;
          there = b.there;
          reason = b.reason;
        })

  -- what follows the end record, where it is refused
  pub record After (k : ℕ) (l : List ℕ) : Type 0 where
    pub gap : List ℕ
    pub rest : List ℕ
    pub good_gap : Gap gap
    pub text : l ≡ gap ++ rest
    pub there : (0 < length rest) × (separator (slice_index rest 0) ≡ false)
    pub says : ended k l ≡ stop malformed_record k (length rest)

  after_end : (k : ℕ) (l : List ℕ) → ((ended k l).answer ≢ not_refused) → After k l
  after_end k [] h = absurd (h refl)
  after_end k (c ∷ l) h = by_test (separator c) refl h (after_end k l)
    where
      by_test : (b : Bool) → separator c ≡ b → ((cond b (ended k l) (stop malformed_record k (suc (length l)))).answer ≢ not_refused)
          → (((ended k l).answer ≢ not_refused) → After k l) → After k (c ∷ l)
      by_test true e g more =
          let a = more g in
          record {
            gap = c ∷ a.gap;
            rest = a.rest;
            good_gap = rw e a.good_gap;
            text = ap (λ (t : List ℕ). c ∷ t) a.text;
            there = a.there;
            says = rw e a.says;
          }
      by_test false e g more = record { gap = []; rest = c ∷ l; good_gap = refl; text = refl; there = (omega arith, e); says = rw e }

  module _ (lawful : Lawful item Data End) where
    abbrev Wrong : ℕ → List ℕ → Contents → Type 0
    Wrong before s x = (x.answer ≢ not_refused) → Refused before s x

    none_left : (before : ℕ) → Refused before [] (stop no_end before 0)
    none_left before =
        inl (record { front = []; rest = []; good_front = refl; text = refl; size = refl; counted = omega arith; reason = inr (refl, refl) })

    module _ (c : ℕ) (s : List ℕ) (wrong : (passed before : ℕ) → Wrong before (drop passed s) (contents item passed before s)) (before : ℕ) where
      abbrev further : ℕ → Contents
      further passed = contents item passed (before + 1) s

      by_end : item before (c ∷ s) ≡ finish → Wrong before (c ∷ s) (ended (before + 1) (drop 11 (c ∷ s)))
      by_end e z =
          let back = lawful.end_back before (c ∷ s) e in
          let a = after_end (before + 1) (drop 11 (c ∷ s)) z in
          let none : before + 0 ≡ before = omega arith in
          rw a.says (inr (record {
            front = [];
            last = back.0;
            gap = a.gap;
            rest = a.rest;
            good_front = refl;
            good_end = rw none back.1;
            good_gap = a.good_gap;
            text = back.2 ∙ ap (λ (t : List ℕ). back.0 ++ t) a.text;
            size = refl;
            counted = omega arith;
            there = a.there;
            reason = refl;
          }))

      by_item : (i : Item) → item before (c ∷ s) ≡ i → Wrong before (c ∷ s) (judged i before (c ∷ s) further)
      by_item (bad reason) e z =
          inl (record { front = []; rest = c ∷ s; good_front = refl; text = refl; size = refl; counted = omega arith; reason = inl e })
      by_item finish e z = by_end e z
      by_item (stretch r) e z =
          let back = lawful.data_back before r (c ∷ s) e in
          let one : 11 + 2 * length r.bytes ≡ suc (10 + 2 * length r.bytes) = omega arith in
          after_record before r back.0 (drop (10 + 2 * length r.bytes) s) (c ∷ s) (further (10 + 2 * length r.bytes)) back.1
          (rw one at back.2) (wrong (10 + 2 * length r.bytes) (before + 1) z)

      by_character : (b : Bool) → separator c ≡ b
          → Wrong before (c ∷ s) (cond b (contents item 0 before s) (judged (item before (c ∷ s)) before (c ∷ s) further))
      by_character true e z = after_separator before c s (contents item 0 before s) e (wrong 0 before z)
      by_character false e z = by_item (item before (c ∷ s)) refl z

    wrong_from : (s : List ℕ) (passed before : ℕ) → Wrong before (drop passed s) (contents item passed before s)
    wrong_from [] passed before z = rw (drop-nil passed) (none_left before)
    wrong_from (c ∷ s) (suc passed) before z = wrong_from s passed before z
    wrong_from (c ∷ s) zero before z = by_character c s (wrong_from s) before (separator c) refl z

    pub refused_there : (s : List ℕ) → ((contents item 0 0 s).answer ≢ not_refused) → Refused 0 s (contents item 0 0 s)
    refused_there s z = wrong_from s 0 0 z
