-- What stands at a place of a text line: a state, a list of cells.
use Rattle.std.specs.Prelude.{ℕ, zero, suc, ◌+◌, ◌-◌, cond, List, eqb, length, get_or, set, Option, Some, None}
use Rattle.text_reading.specs.declared.Reading.{Reading}
use Rattle.replay_list.specs.declared.State.{State}
use Rattle.replay_list.specs.declared.Cell.{Cell}
use Rattle.text_reading.specs.Numbers.{nowhere, byte_at, word_at, count_at, mark_at}

-- a space and a byte
unfoldable pub spaced_byte_at : List ℕ → ℕ → Reading ℕ
spaced_byte_at s at = byte_at s (mark_at 32 s at)

-- `NN LV PC A X Y S P CYCLES`: before a step NN is the opcode, after it the answer
unfoldable pub state_at : List ℕ → ℕ → State
state_at s at =
    let number = byte_at s at in
    let levels = spaced_byte_at s number.next in
    let counter = word_at s (mark_at 32 s levels.next) in
    let accumulator = spaced_byte_at s counter.next in
    let x = spaced_byte_at s accumulator.next in
    let y = spaced_byte_at s x.next in
    let stack = spaced_byte_at s y.next in
    let status = spaced_byte_at s stack.next in
    let cycles = count_at s (mark_at 32 s status.next) in
    record {
      number = number.value;
      levels = levels.value;
      counter = counter.value;
      accumulator = accumulator.value;
      x = x.value;
      y = y.value;
      stack = stack.value;
      status = status.value;
      cycles = cycles.value;
      next = cycles.next;
    }

-- what the code answers: none where the next place is nowhere
abbrev pub state_found : State → Option State
state_found s = cond (eqb s.next nowhere) None (Some s)

-- ` BB@AAAA`
unfoldable pub cell_at : List ℕ → ℕ → Cell
cell_at s at =
    let byte = spaced_byte_at s at in
    let address = word_at s (mark_at 64 s byte.next) in
    record { byte = byte.value; address = address.value; next = address.next }

-- the place after at most n cells, and the memory with these stored
unfoldable pub loaded_from : ℕ → List ℕ → ℕ → List ℕ → ℕ × List ℕ
loaded_from zero s at m = (at, m)
loaded_from (suc n) s at m =
    let b = cell_at s at in
    cond (eqb b.next nowhere) (at, m) (loaded_from n s b.next (set m b.address b.byte))

-- how many bytes a list has at most
abbrev pub most_cells : ℕ
most_cells = 64

-- ` |`
unfoldable pub bar_at : List ℕ → ℕ → ℕ
bar_at s at = mark_at 124 s (mark_at 32 s at)

-- the place after the first LF among the next n characters, or after these
unfoldable pub line_within : ℕ → List ℕ → ℕ → ℕ
line_within zero s at = at
line_within (suc n) s at = cond (eqb (get_or s at 0) 10) (at + 1) (line_within n s (at + 1))

-- the place after the line in which `at` stands
unfoldable pub line_after : List ℕ → ℕ → ℕ
line_after s at = line_within (length s - at) s at
