-- The status, the line and the sentence of a sealed run of an image.
use Rattle.std.specs.Prelude.{ℕ, ◌+◌, List, [], ◌++◌, Ok, Err}
use Rattle.laws.specs.Characters.{characters}
use Rattle.text_writing.specs.Numerals.{decimal, spaced, hex4}
use Rattle.trace_fields.specs.Fields.{machine_fields}
use Rattle.statuses.specs.declared.Goal.{Goal}
use Rattle.statuses.specs.Statuses.{end_status}
use Rattle.sentences.specs.Line.{line}
use Rattle.sentences.specs.Sentence.{sentence}
use Rattle.guard_maps.specs.Maps.{touch_answer, touch_place}
use Rattle.guard.specs.Guarded.{Guarded}
use Rattle.guard.specs.declared.Halt.{Halt}

-- 13: it was halted before it would have read a sealed byte
abbrev pub sealed_status : Goal → Guarded → ℕ
sealed_status goal (Ok q) = end_status goal q
sealed_status goal (Err h) = touch_answer h.touch

abbrev pub halt_line : Halt → List ℕ
halt_line h = decimal (touch_answer h.touch) ++ spaced (decimal h.steps) ++ spaced (machine_fields h.machine) ++ characters "\n"

abbrev pub sealed_line : Guarded → List ℕ
sealed_line (Ok q) = line q
sealed_line (Err h) = halt_line h

-- the most characters that it has
abbrev pub longest_sealed_line : ℕ
longest_sealed_line = 72

-- what is sealed is named by the word that says it
abbrev pub unread : List ℕ → ℕ → List ℕ
unread word steps = characters "no byte of " ++ word ++ characters " was read in " ++ decimal steps ++ characters " steps\n"

abbrev pub would : ℕ → ℕ → List ℕ
would steps place =
    characters "halted before step " ++ decimal (steps + 1) ++ characters ": it would read the sealed byte at " ++ hex4 place ++ characters "\n"

abbrev pub oath_text : List ℕ → Guarded → List ℕ
oath_text word (Ok q) = unread word q.steps
oath_text word (Err h) = would h.steps (touch_place h.touch)

-- the most characters that it has besides that word
abbrev pub longest_oath : ℕ
longest_oath = 96

-- how the run ended, in words, if it was not halted; x is the memory that it left
abbrev pub end_text : Goal → Guarded → List ℕ → List ℕ
end_text goal (Ok q) x = sentence goal q x
end_text goal (Err h) x = []
