-- Laws of what a move gives, one for each way out of the code.
use Rattle.std.specs.Prelude.{◌≡◌, ℕ, ◌<◌, ◌≤◌, Bool, true, false, cond, List, length, ◌==◌, nat_lt, Ok, Err, refl}
use Rattle.std.proofs.Math.Path.{ap, sym}
use Rattle.std.proofs.Common.{◌∙◌, arith, eq-eqb, ne_eqb, ltb-false}
use Rattle.std.proofs.lemmas.List.Edits.{sets}
use Rattle.laws.specs.Answers.{not_refused, no_room, answer_of}
use Rattle.text_writing.specs.Delivered.{Delivered, refused, delivered}
use Rattle.text_writing.specs.Lemmas.Delivered.{no_room_lem, all_written}
use Rattle.tape_loading.specs.declared.Format.{Format}
use Rattle.laws.specs.declared.answers.Refusal.TheVariants.{NoRoom}
use Rattle.text_writing.specs.Written.{Wrote}
use Rattle.text_writing.specs.declared.Writer.{Writer}
use Rattle.tape_loading.specs.declared.Reach.{Reach}
use Rattle.tape_loading.specs.declared.Fault.{Fault}
use Rattle.tape_loading.specs.Answers.{Verdict, verdict_of, verdict_in}
use Rattle.text_writing.specs.Lemmas.Refusals.{never_good}
use Rattle.tape_loading.specs.Inner.Formats.{contents_of}
use Rattle.tape_moving.specs.Moving.{Outcome, with_text, found_in}
use Rattle.tape_moving.specs.Inner.Lines.{text_from, moved}
use Rattle.tape_moving.specs.Lemmas.Lines.{accepted_records, text_length}
use Rattle.tape_moving.specs.Inner.Passing.{Passed}

-- one writing of the records, which begins at the start of a buffer
module _ (from to : Format) (s buffer : List ℕ) where
  -- what the verdict says, with an answer and what became of the buffer
  as_found : (d : Delivered) (v : Verdict) → v ≡ verdict_of s (contents_of from s)
      → record { answer = d.answer; size = d.size; good = v.good; place = v.place; buffer = d.buffer } ≡ found_in s (contents_of from s) d
  as_found d v e = ap (λ (x : Verdict). record { answer = d.answer; size = d.size; good = x.good; place = x.place; buffer = d.buffer }) e

  pub move_bad : {w w' : Writer} {fault : Fault} → Passed to s (contents_of from s) w w' (Err fault) → with_text (Err fault) buffer ≡ moved from to s buffer
  unfolding moved
  move_bad {fault} p =
      let same : answer_of fault.reason ≡ (contents_of from s).answer = ap (λ (v : Verdict). v.answer) p.says in
      as_found (refused (answer_of fault.reason) buffer) (verdict_in (Err fault)) p.says
      ∙ rw (ne_eqb (contents_of from s).answer not_refused (λ z. never_good fault.reason (same ∙ z)), same)

  module _ {w w' : Writer} {reach : Reach} (p : Passed to s (contents_of from s) w w' (Ok reach)) (begins : w.at ≡ 0) where
    good : (contents_of from s).answer ≡ not_refused
    good = sym (ap (λ (v : Verdict). v.answer) p.says)

    pub its_size : w'.at ≡ length (text_from to 0 (contents_of from s).records)
    its_size =
        let known = accepted_records from s good in
        omega (arith, (p.writes good).wrote.ends, text_length to (contents_of from s).records 0 known.0, known.1)

    pub move_no_room : length buffer < w'.at
        → with_text (Err (record { reason = NoRoom; reach = reach })) buffer ≡ moved from to s buffer
    unfolding moved
    move_no_room h =
        as_found (refused no_room buffer) (verdict_in (Ok reach)) p.says
        ∙ ap (found_in s (contents_of from s)) (no_room_lem (text_from to 0 (contents_of from s).records) buffer (omega (arith, its_size, h)))
        ∙ rw (eq-eqb (contents_of from s).answer not_refused good)

    pub move_written : w'.at ≤ length buffer → {v v' : Writer} → v.out.now ≡ buffer → v.at ≡ 0 → {r : Reach}
        → Passed to s (contents_of from s) v v' (Ok r) → {size : ℕ} {buffer' : List ℕ} → size ≡ v'.at → buffer' ≡ v'.out.now
        → with_text (Ok (record { reach = r; size = size })) buffer' ≡ moved from to s buffer
    unfolding moved
    move_written h {v} {v'} same start {r} q {size} {buffer'} sized left =
        let wrote : Wrote buffer 0 (text_from to 0 (contents_of from s).records) buffer' size = rw (same, start, ← sized, ← left) at (q.writes good).wrote in
        as_found (record { answer = not_refused; size = size; buffer = buffer' }) (verdict_in (Ok r)) q.says
        ∙ ap (found_in s (contents_of from s)) (all_written (text_from to 0 (contents_of from s).records) buffer (omega (arith, its_size, h)) wrote)
        ∙ rw (eq-eqb (contents_of from s).answer not_refused good)

    -- a second writing is as good as the first
    pub not_worse : {v v' : Writer} {fault : Fault} → Passed to s (contents_of from s) v v' (Err fault) → ⊥
    not_worse {v} {v'} {fault} q = never_good fault.reason (ap (λ (x : Verdict). x.answer) q.says ∙ good)

-- no text is longer than its buffer
pub moved_fits : (from to : Format) (s buffer : List ℕ) {o : Outcome} → o ≡ moved from to s buffer → o.size ≤ length buffer
unfolding moved
moved_fits from to s buffer e =
    rw e (by_answer (text_from to 0 (contents_of from s).records) ((contents_of from s).answer == not_refused))
  where
    by_room : (t : List ℕ) (b : Bool) → nat_lt (length buffer) (length t) ≡ b
        → (cond b (refused no_room buffer) (record { answer = not_refused; size = length t; buffer = sets buffer 0 t })).size ≤ length buffer
    by_room t true g = omega arith
    by_room t false g = ltb-false (length buffer) (length t) g

    by_answer : (t : List ℕ) (b : Bool) → (cond b (delivered t buffer) (refused (contents_of from s).answer buffer)).size ≤ length buffer
    by_answer t true = by_room t (nat_lt (length buffer) (length t)) refl
    by_answer t false = omega arith
