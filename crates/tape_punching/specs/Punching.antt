-- A stretch of memory as a paper tape, 24 bytes a record and the rest in the last one.
use Rattle.std.specs.Prelude.{ℕ, zero, suc, cond, not, List, [], ◌∷◌, length, take, ◌==◌, nat_lt}
use Rattle.std.proofs.Math.Seq.{slice}
use Rattle.laws.specs.Answers.{memory_not_full, first_above_last}
use Rattle.manual.specs.Stepping.{full_memory}
use Rattle.text_writing.specs.Delivered.{Delivered, refused, delivered}
use Rattle.tape_records.specs.Contents.{Stretch}
use Rattle.tape_paper.specs.Grammar.{tape_text}

-- the records of some bytes from an address on, of which the first `covered` stand in the record before
abbrev pub cut : ℕ → ℕ → List ℕ → List Stretch
cut at covered [] = []
cut at (suc covered) (b ∷ bs) = cut (suc at) covered bs
cut at zero (b ∷ bs) = record { first = at; bytes = take 24 (b ∷ bs) } ∷ cut (suc at) 23 bs

-- the bytes from a first to a last address
abbrev pub stretch_of : List ℕ → ℕ → ℕ → List ℕ
stretch_of m first last = slice first (suc last) m

-- the text of the tape
unfoldable pub tape_from : List ℕ → ℕ → ℕ → List ℕ
tape_from m first last = tape_text 0 (cut first 0 (stretch_of m first last))

-- the characters of the whole memory's tape, and the most that one has
abbrev pub longest_tape : ℕ
longest_tape = 166588

-- the text in a buffer, with the refusals in their order
unfoldable pub tape_into : List ℕ → ℕ → ℕ → List ℕ → Delivered
tape_into m first last buffer =
    cond (not (length m == full_memory)) (refused memory_not_full buffer)
    (cond (nat_lt last first) (refused first_above_last buffer) (delivered (tape_from m first last) buffer))
