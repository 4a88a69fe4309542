-- What is saved of a torn tape: every good data record, wherever it begins, in order. A good record has no `;` but its first character, so
-- the search goes on at the next character, whatever stood there.
use Rattle.std.specs.Prelude.{ℕ, suc, cond, List, [], ◌∷◌, eqb, ltb, length, Result, Ok, Err}
use Rattle.std.proofs.Math.Option.{Option, none, some}
use Rattle.std.proofs.lemmas.List.Edits.{sets}
use Rattle.laws.specs.Answers.{not_refused, malformed_record, no_end, no_room, answer_of}
use Rattle.laws.specs.declared.answers.Refusal.{Refusal}
use Rattle.tape_records.specs.Records.{record_of, address}
use Rattle.tape_records.specs.Contents.{Stretch, Item, stretch, finish, bad}
use Rattle.tape_paper.specs.Tapes.{judge}
use Rattle.tape_paper.specs.Grammar.{tape_text}
use Rattle.tape_rescuing.specs.declared.Rescued.{Rescued}

-- a record by itself: an end record's number is not looked at, so it is judged as if it were right
abbrev pub worth : Option (List ℕ) → Item
worth none = bad malformed_record
worth (some bs) = judge (address bs) (some bs)

-- the records kept, how many are dropped, and the offset of the first of these
pub record Saved : Type 0 where
  pub records : List Stretch
  pub dropped : ℕ
  pub first : ℕ

abbrev pub found : ℕ → Item → Saved → Saved
found at (stretch r) more = record { records = r ∷ more.records; dropped = more.dropped; first = more.first }
found at finish more = more
found at (bad reason) more = record { records = more.records; dropped = suc more.dropped; first = at }

-- what is saved from an offset on; `;` is the character 59
abbrev pub saved : ℕ → List ℕ → Saved
saved at [] = record { records = []; dropped = 0; first = at }
saved at (c ∷ s) = cond (eqb c 59) (found at (worth (record_of 59 (c ∷ s))) (saved (suc at) s)) (saved (suc at) s)

-- the answer, the text's length, the two counts and the offset, and the buffer with the text at its start
pub record Outcome : Type 0 where
  pub answer : ℕ
  pub size : ℕ
  pub kept : ℕ
  pub dropped : ℕ
  pub first : ℕ
  pub buffer : List ℕ

-- the answer's number, and the other numbers, of what the code answers
abbrev pub numbers_of : Result Rescued Refusal → ℕ × Rescued
numbers_of (Ok r) = (not_refused, r)
numbers_of (Err refusal) = (answer_of refusal, record { size = 0; tally = record { kept = 0; dropped = 0; first = 0 } })

-- the same as one report
pub record Report : Type 0 where
  pub answer : ℕ
  pub size : ℕ
  pub kept : ℕ
  pub dropped : ℕ
  pub first : ℕ

abbrev pub report_of : Result Rescued Refusal → Report
report_of r =
    record {
      answer = (numbers_of r).0;
      size = (numbers_of r).1.size;
      kept = (numbers_of r).1.tally.kept;
      dropped = (numbers_of r).1.tally.dropped;
      first = (numbers_of r).1.tally.first;
    }

-- and with the buffer that it leaves
abbrev pub with_text : Result Rescued Refusal → List ℕ → Outcome
with_text r buffer =
    record {
      answer = (report_of r).answer;
      size = (report_of r).size;
      kept = (report_of r).kept;
      dropped = (report_of r).dropped;
      first = (report_of r).first;
      buffer = buffer;
    }

abbrev pub refused : ℕ → List ℕ → Outcome
refused answer buffer = record { answer = answer; size = 0; kept = 0; dropped = 0; first = 0; buffer = buffer }

-- the kept records and a fresh end record, in a buffer that holds them
abbrev pub restored : Saved → List ℕ → Outcome
restored x buffer =
    record {
      answer = not_refused;
      size = length (tape_text 0 x.records);
      kept = length x.records;
      dropped = x.dropped;
      first = x.first;
      buffer = sets buffer 0 (tape_text 0 x.records);
    }

-- the same with the refusals in their order
unfoldable pub rescued : List ℕ → List ℕ → Outcome
rescued s buffer =
    cond (ltb 65535 (length (saved 0 s).records)) (refused no_end buffer)
    (cond (ltb (length buffer) (length (tape_text 0 (saved 0 s).records))) (refused no_room buffer)
    (restored (saved 0 s) buffer))
