-- Going through a text from record to record: what comes next, and what is laid.
use Rattle.std.specs.Prelude.{ℕ, ◌+◌, ◌-◌, ◌*◌, ◌<◌, ◌≤◌, ◌≡◌, Bool, cond, List, ◌++◌, length, get_or, drop}
use Rattle.std.proofs.Math.Path.{refl}
use Rattle.std.proofs.Common.{ap, sym, ◌∙◌, arith, length-drop, drop-drop, get_or-drop, ltb-true, ltb-false}
use Rattle.std.proofs.Math.Bool.{true, false}
use Rattle.std.proofs.Math.Option.{some}
use Rattle.std.proofs.Math.Dec.{ltb}
use Rattle.std.proofs.lemmas.List.Edits.{sets}
use Rattle.laws.specs.Answers.{not_refused, malformed_record, no_end}
use Rattle.manual.specs.Stepping.{full_memory}
use Rattle.text_reading.specs.Numbers.{nowhere}
use Rattle.tape_records.specs.Records.{separator, bytes_of, hexes}
use Rattle.tape_records.specs.Inner.Reading.{values_at}
use Rattle.tape_records.specs.Contents.{Stretch, Item, stretch, finish, bad, Contents, stop, and_then, ended, contents, Loaded, laid, outcome, read_onto}
use Rattle.tape_records.specs.Lemmas.Onto.{read_bad, read_good}
use Rattle.tape_records.specs.Inner.Gaps.{gap_length, gap_end}
use Rattle.tape_records.specs.Lemmas.Gaps.{past_gap, no_separator, gap_whole, gap_part}
use Rattle.tape_records.specs.Lemmas.Scanning.{at_end, at_bad, at_finish, at_stretch}
use Rattle.tape_records.specs.Lemmas.Spelling.{bytes_spelled}
use Rattle.tape_records.specs.Lemmas.Whole.{values}
use Rattle.tape_loading.specs.declared.Format.{Format}
use Rattle.tape_loading.specs.Answers.{Verdict}
use Rattle.tape_loading.specs.Inner.Following.{Next, Ahead, Stop}
use Rattle.tape_loading.specs.Inner.Formats.{item_of, head_size}
use Rattle.tape_loading.specs.Lemmas.Formats.{head_small, known, end_room}
use Rattle.tape_loading.specs.Answers.{loaded}
use Rattle.tape_loading.specs.Inner.Following.{stop_at, next_by, next_of}

-- no data record comes next
pub record Stops (f : Format) (s : List ℕ) (at before : ℕ) (v : Verdict) : Type 0 where
  pub says : contents (item_of f) 0 before (drop at s) ≡ stop v.answer v.good (length s - v.place)
  pub within : v.place ≤ length s

-- a data record comes next, and then the text goes on
pub record Comes (f : Format) (s : List ℕ) (at before w n digits after : ℕ) : Type 0 where
  pub goes_on : contents (item_of f) 0 before (drop at s)
      ≡ and_then (record { first = w; bytes = values_at n (drop digits s) 0 }) (contents (item_of f) 0 (before + 1) (drop after s))
  pub read : bytes_of n (drop digits s) ≡ some (values_at n (drop digits s) 0)
  pub marked : 0 < digits
  pub room : digits + 2 * n ≤ length s
  pub further : at < after
  pub inside : after ≤ length s

abbrev NextIs : Format → List ℕ → ℕ → ℕ → Next → Type 0
NextIs f s at before (Stop v) = Stops f s at before v
NextIs f s at before (Ahead w n digits after) = Comes f s at before w n digits after

-- What is said to come next does.
module _ (f : Format) (s : List ℕ) (at before : ℕ) where
  abbrev place : ℕ
  place = gap_end s at

  skipped : contents (item_of f) 0 before (drop at s) ≡ contents (item_of f) 0 before (drop place s)
  skipped = past_gap (item_of f) before (drop at s) ∙ rw (drop-drop (gap_length (drop at s)) at s)

  no_record : length s ≤ place → Stops f s at before (record { answer = no_end; good = before; place = length s })
  no_record h =
      let none : length s - length s ≡ 0 = omega arith in
      record { says = rw none (skipped ∙ at_end (item_of f) s place before h); within = omega arith }

  module _ (h : place < length s) where
    starts : separator (get_or s place 0) ≡ false
    starts =
        let inside : gap_length (drop at s) < length (drop at s) = simp length-drop (omega arith) in
        rw (← get_or-drop at s (gap_length (drop at s)) 0) (no_separator (drop at s) inside)

    bad_record : (reason : ℕ) → item_of f before (drop place s) ≡ bad reason → Stops f s at before (record { answer = reason; good = before; place = place })
    bad_record reason e =
        record { says = skipped ∙ at_bad (item_of f) s place before h starts reason e ∙ simp length-drop; within = omega arith }

    module _ (e : item_of f before (drop place s) ≡ finish) where
      at_the_end : contents (item_of f) 0 before (drop at s) ≡ ended (before + 1) (drop (place + 11) s)
      at_the_end = skipped ∙ at_finish (item_of f) s place before h starts e ∙ rw (drop-drop 11 place s)

      size : length (drop (place + 11) s) ≡ length s - (place + 11)
      size = length-drop (place + 11) s

      end_record : (b : Bool) → ltb (gap_end s (place + 11)) (length s) ≡ b
          → NextIs f s at before (cond b (stop_at malformed_record (before + 1) (gap_end s (place + 11))) (stop_at not_refused (before + 1) (length s)))
      end_record true g =
          let stray : gap_end s (place + 11) < length s = ltb-true (gap_end s (place + 11)) (length s) g in
          let left : length (drop (place + 11) s) - gap_length (drop (place + 11) s) ≡ length s - gap_end s (place + 11) = omega (arith, size) in
          record {
            says = at_the_end ∙ gap_part (before + 1) (drop (place + 11) s) (omega (arith, size)) ∙ rw left;
            within = omega arith;
          }
      end_record false g =
          let past : length s ≤ gap_end s (place + 11) = ltb-false (gap_end s (place + 11)) (length s) g in
          let room = end_room f before (drop place s) e in
          let none : length s - length s ≡ 0 = omega arith in
          record {
            says = rw none (at_the_end ∙ gap_whole (before + 1) (drop (place + 11) s) (omega (arith, size)));
            within = omega arith;
          }

    data_record : (r : Stretch) → item_of f before (drop place s) ≡ stretch r → length s ≤ nowhere
        → Comes f s at before r.first (length r.bytes) (place + 1 + 2 * head_size f) (place + 11 + 2 * length r.bytes)
    data_record r e fits =
        let its = known f before (drop place s) r e in
        let room : place + 11 + 2 * length r.bytes ≤ length s = omega (arith, its.room, length-drop place s) in
        let far : place + 1 + 2 * head_size f ≡ place + (1 + 2 * head_size f) = omega arith in
        let digits : drop (place + 1 + 2 * head_size f) s ≡ hexes r.bytes ++ its.rest =
        rw (far, ← drop-drop (1 + 2 * head_size f) place s) its.digits in
        let short : length (hexes r.bytes ++ its.rest) ≤ nowhere = rw (← digits) (simp length-drop (omega arith)) in
        let spelled : bytes_of (length r.bytes) (hexes r.bytes ++ its.rest) ≡ some r.bytes = bytes_spelled r.bytes its.rest its.fit.small in
        let valued : values_at (length r.bytes) (drop (place + 1 + 2 * head_size f) s) 0 ≡ r.bytes =
        rw digits (values (hexes r.bytes ++ its.rest) short (length r.bytes) 0 r.bytes spelled) in
        let after : place + (11 + 2 * length r.bytes) ≡ place + 11 + 2 * length r.bytes = omega arith in
        record {
          goes_on = skipped ∙ at_stretch (item_of f) s place before h starts r e ∙ rw (after, valued);
          read = rw (valued, digits) spelled;
          marked = omega arith;
          room = omega (arith, room, head_small f);
          further = omega arith;
          inside = room;
        }

    by_item : length s ≤ nowhere → (i : Item) → item_of f before (drop place s) ≡ i → NextIs f s at before (next_by f s before place i)
    by_item fits (bad reason) e = bad_record reason e
    by_item fits finish e = end_record e (ltb (gap_end s (place + 11)) (length s)) refl
    by_item fits (stretch r) e = data_record r e fits

  next_is : length s ≤ nowhere → NextIs f s at before (next_of f s at before)
  unfolding next_of
  next_is fits = by_place (ltb place (length s)) refl
    where
      by_place : (b : Bool) → ltb place (length s) ≡ b
          → NextIs f s at before (cond b (next_by f s before place (item_of f before (drop place s))) (stop_at no_end before (length s)))
      by_place true g = by_item (ltb-true place (length s) g) fits (item_of f before (drop place s)) refl
      by_place false g = no_record (ltb-false place (length s) g)

-- The same by what the code was told.
module _ (f : Format) (s : List ℕ) (at before : ℕ) (fits : length s ≤ nowhere) {next : Next} (is : next ≡ next_of f s at before) where
  pub stops : {v : Verdict} → next ≡ Stop v → Stops f s at before v
  stops e = rw (sym is ∙ e) at (next_is f s at before fits)

  pub comes : {w n digits after : ℕ} → next ≡ Ahead w n digits after → Comes f s at before w n digits after
  comes e = rw (sym is ∙ e) at (next_is f s at before fits)

-- what is left to be laid from a place on
abbrev pub left_at : Format → List ℕ → ℕ → ℕ → List ℕ → Loaded
left_at f s at before m = outcome s (contents (item_of f) 0 before (drop at s)) (laid (contents (item_of f) 0 before (drop at s)).records m)

module _ (f : Format) (s : List ℕ) (at before : ℕ) (m : List ℕ) where
  pub lay_stop : {v : Verdict} → Stops f s at before v → left_at f s at before m ≡ loaded v m
  lay_stop {v} k =
      let back : length s - (length s - v.place) ≡ v.place = omega (arith, k.within) in
      rw (k.says, back)

  pub lay_data : {w n digits after : ℕ} → Comes f s at before w n digits after → {t m' : List ℕ} → t ≡ drop digits s
      → m' ≡ sets m w (values_at n t 0) → left_at f s at before m ≡ left_at f s after (before + 1) m'
  lay_data k r e = rw (k.goes_on, e, r)

-- What the first round finds, whatever it is laid onto, decides.
module _ (s m : List ℕ) (c : Contents) (full : length m ≡ full_memory) {v : Verdict} {l l' : List ℕ} (first : loaded v l' ≡ outcome s c l) where
  same_answer : v.answer ≡ c.answer
  same_answer = ap (λ (x : Loaded). x.answer) first

  pub read_refused : (v.answer ≡ not_refused → ⊥) → loaded v m ≡ read_onto s c m
  read_refused h =
      ap (λ (x : Loaded). record { answer = x.answer; good = x.good; place = x.place; memory = m }) first
      ∙ sym (read_bad s c m full (λ z. h (same_answer ∙ z)))

  pub read_laid : v.answer ≡ not_refused → {x : Loaded} → x ≡ outcome s c (laid c.records m) → x ≡ read_onto s c m
  read_laid z e = e ∙ sym (read_good s c m full (sym same_answer ∙ z))
