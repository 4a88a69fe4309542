-- Laws of Passing.antt.
use Rattle.std.specs.Prelude.{◌≡◌, ℕ, ◌+◌, ◌-◌, ◌*◌, ◌<◌, ◌≤◌, List, ◌++◌, length, take, drop, Ok, Err, refl}
use Rattle.std.proofs.Common.{ap, sym, ◌∙◌, arith}
use Rattle.laws.specs.Answers.{not_refused}
use Rattle.text_writing.specs.Written.{Writes}
use Rattle.text_writing.specs.declared.Writer.{Writer}
use Rattle.tape_records.specs.Lemmas.Writing.{Left, less_left}
use Rattle.tape_records.specs.Contents.{Stretch, Contents, stop, and_then, contents}
use Rattle.tape_records.specs.Inner.Reading.{values_at}
use Rattle.tape_records.specs.Grammar.{newline}
use Rattle.tape_loading.specs.declared.Format.{Format}
use Rattle.tape_loading.specs.declared.Reach.{Reach}
use Rattle.tape_loading.specs.declared.Fault.{Fault}
use Rattle.tape_loading.specs.Answers.{Verdict, verdict_of, verdict_in}
use Rattle.tape_loading.specs.Inner.Formats.{item_of, contents_of}
use Rattle.tape_loading.specs.Lemmas.Going.{Stops, Comes}
use Rattle.text_writing.specs.Lemmas.Refusals.{never_good}
use Rattle.tape_moving.specs.Inner.Lines.{record_in, text_from, line_of, sum_from}
use Rattle.tape_moving.specs.Lemmas.Lines.{its_line, accepted_records}
use Rattle.tape_moving.specs.Inner.Passing.{Passed}

-- of X, x is left to be written
pub record Underway (to : Format) (s : List ℕ) (X x : Contents) (w₀ w : Writer) (before : ℕ) : Type 0 where
  pub says : verdict_of s x ≡ verdict_of s X
  pub counts : before + length x.records ≡ length X.records
  pub writes : Left w (text_from to before x.records) w₀ (text_from to 0 X.records)

-- no data record is left
pub record Finished (to : Format) (s : List ℕ) (X : Contents) (w₀ w : Writer) (before : ℕ) (v : Verdict) : Type 0 where
  pub says : v ≡ verdict_of s X
  pub counts : before ≡ length X.records
  pub writes : Left w (text_from to before (stop not_refused 0 0).records) w₀ (text_from to 0 X.records)

module _ {to : Format} {X x : Contents} {s : List ℕ} {w₀ w : Writer} {before : ℕ} (u : Underway to s X x w₀ w before) where
  one_moved : (r : Stretch) {y : Contents} {w' : Writer} → x ≡ and_then r y
      → Writes w (record_in to r ++ newline) w' → Underway to s X y w₀ w' (before + 1)
  one_moved r {y} e p =
      let v : Underway to s X (and_then r y) w₀ w before = rw e at u in
      record {
        says = v.says;
        counts = omega (arith, v.counts);
        writes = less_left {s = record_in to r ++ newline} v.writes refl p;
      }

stopped : (s : List ℕ) (v : Verdict) → v.place ≤ length s → (w : Verdict) → verdict_of s (stop v.answer v.good (length s - v.place)) ≡ w → v ≡ w
stopped s v h w e =
    let back : length s - (length s - v.place) ≡ v.place = omega arith in
    rw back at e

module _ {f to : Format} {X : Contents} {s : List ℕ} {w₀ w : Writer} {at before : ℕ} (u : Underway to s X (contents (item_of f) 0 before (drop at s)) w₀ w before) where
  pub at_stop : {v : Verdict} → Stops f s at before v → Finished to s X w₀ w before v
  at_stop {v} k =
      let here : Underway to s X (stop v.answer v.good (length s - v.place)) w₀ w before = rw k.says at u in
      record {
        says = stopped s v k.within (verdict_of s X) here.says;
        counts = omega (arith, here.counts);
        writes = here.writes;
      }

  -- a record that comes next is written by its parts
  pub line_moved : {a n digits after : ℕ} → Comes f s at before a n digits after
      → {w' : Writer} → Writes w (line_of to n a (take (2 * n) (drop digits s)) (sum_from n a (drop digits s))) w'
      → Underway to s X (contents (item_of f) 0 (before + 1) (drop after s)) w₀ w' (before + 1)
  line_moved {a} {n} {digits} k wrote =
      one_moved u (record { first = a; bytes = values_at n (drop digits s) 0 }) k.goes_on
      (rw (its_line to n a (drop digits s) (values_at n (drop digits s) 0) k.read) at wrote)

-- no more than 65,535 records were written if all is good
pub few_moved : (f : Format) (s : List ℕ) {to : Format} {w₀ w : Writer} {before : ℕ} {v : Verdict}
    → Finished to s (contents_of f s) w₀ w before v → v.answer ≡ not_refused → before < 65536
few_moved f s e z =
    omega (arith, e.counts, (accepted_records f s (sym (ap (λ (x : Verdict). x.answer) e.says) ∙ z)).1)

-- the two ways out
module _ {to : Format} {s : List ℕ} {X : Contents} {w₀ w : Writer} {before : ℕ} where
  pub bad_passed : (fault : Fault) → Finished to s X w₀ w before (verdict_in (Err fault)) → Passed to s X w₀ w (Err fault)
  bad_passed fault e =
      record { says = e.says; writes = λ z. absurd (never_good fault.reason (ap (λ (x : Verdict). x.answer) e.says ∙ z)) }

  pub good_passed : (reach : Reach) → Finished to s X w₀ w before (verdict_in (Ok reach))
      → {w' : Writer} → Writes w (text_from to before (stop not_refused 0 0).records) w' → Passed to s X w₀ w' (Ok reach)
  good_passed reach e p = record { says = e.says; writes = λ z. e.writes _ p }
