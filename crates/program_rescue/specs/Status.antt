-- The status of a rescue.
use Rattle.std.specs.Prelude.{ℕ, List}
use Rattle.statuses.specs.Statuses.{rescue_status}
use Rattle.tape_paper.specs.Tapes.{tape_of}
use Rattle.tape_rescuing.specs.Rescuing.{rescued}

-- by what is saved of a tape in a buffer, and by what a reader answers to the old tape
abbrev pub status_of : List ℕ → List ℕ → ℕ
status_of tape buffer = let x = rescued tape buffer in rescue_status x.answer x.dropped (tape_of tape).answer
