-- What comes next in a text, at a place where a record may begin and after so many data records.
use Rattle.std.specs.Prelude.{ℕ, ◌+◌, ◌*◌, cond, List, ltb, length, drop, Result, Ok, Err}
use Rattle.laws.specs.Answers.{not_refused, malformed_record, no_end}
use Rattle.tape_records.specs.Contents.{Item, stretch, finish, bad}
use Rattle.tape_records.specs.Inner.Gaps.{gap_end}
use Rattle.tape_loading.specs.declared.Format.{Format}
use Rattle.tape_loading.specs.declared.Next.{Next as Coming}
use Rattle.tape_loading.specs.declared.Next.TheVariants.{Data as ComingData, End as ComingEnd}
use Rattle.tape_loading.specs.declared.Fault.{Fault}
use Rattle.tape_loading.specs.Answers.{Verdict, verdict_in}
use Rattle.tape_loading.specs.Inner.Formats.{item_of, head_size}

-- a data record: its address, how many bytes it has, the place of its data, and that at which the text goes on; or none
pub data Next : Type 0 where
  Ahead : ℕ → ℕ → ℕ → ℕ → Next
  Stop : Verdict → Next

-- the same of what the code answers
abbrev pub next_in : Result Coming Fault → Next
next_in (Ok (ComingData head digits after)) = Ahead head.address head.count digits after
next_in (Ok (ComingEnd reach)) = Stop (verdict_in (Ok reach))
next_in (Err fault) = Stop (verdict_in (Err fault))

abbrev pub stop_at : ℕ → ℕ → ℕ → Next
stop_at answer good place = Stop (record { answer = answer; good = good; place = place })

-- by what stands at a place that is no separator's
abbrev pub next_by : Format → List ℕ → ℕ → ℕ → Item → Next
next_by f s before place (bad reason) = stop_at reason before place
next_by f s before place finish =
    cond (ltb (gap_end s (place + 11)) (length s)) (stop_at malformed_record (before + 1) (gap_end s (place + 11))) (stop_at not_refused (before + 1) (length s))
next_by f s before place (stretch r) = Ahead r.first (length r.bytes) (place + 1 + 2 * head_size f) (place + 11 + 2 * length r.bytes)

unfoldable pub next_of : Format → List ℕ → ℕ → ℕ → Next
next_of f s at before =
    cond (ltb (gap_end s at) (length s)) (next_by f s before (gap_end s at) (item_of f before (drop (gap_end s at) s))) (stop_at no_end before (length s))
