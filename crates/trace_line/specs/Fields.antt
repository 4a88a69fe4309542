-- What is read at the head of a text: the seven fields of a text line, and the state that they spell. What that means is said in Lines and proved
-- in Theorems: exactly the lines that `machine_fields` of the report writes.
use Rattle.std.specs.Prelude.{ℕ, ◌+◌, true, cond, List, eqb, Option, Some, None}
use Rattle.registers.specs.State.{registers_of}
use Rattle.registers.specs.StatusByte.{pushed_byte, pulled_status}
use Rattle.manual.specs.declared.Machine.{Machine}
use Rattle.manual.specs.Outcomes.{machine_of}
use Rattle.text_reading.specs.declared.Reading.{Reading}
use Rattle.text_reading.specs.Numbers.{nowhere, byte_at, word_at, count_at, mark_at}
use Rattle.trace_line.specs.declared.Fields.{Fields}
use Rattle.trace_line.specs.declared.Spelled.{Spelled}

-- a decimal number that is 0 or does not begin with 0
unfoldable pub cycles_of : List ℕ → Reading ℕ
cycles_of s = let zero = mark_at 48 s 0 in cond (eqb zero nowhere) (count_at s 0) (record { value = 0; next = zero })

-- a space and a byte
unfoldable pub field_at : List ℕ → ℕ → Reading ℕ
field_at s at = byte_at s (mark_at 32 s at)

-- the seven fields, and the place after the LF
unfoldable pub fields_of : List ℕ → Fields
fields_of s =
    let cycles = cycles_of s in
    let counter = word_at s (mark_at 32 s cycles.next) in
    let accumulator = field_at s counter.next in
    let x = field_at s accumulator.next in
    let y = field_at s x.next in
    let stack = field_at s y.next in
    let status = field_at s stack.next in
    record {
      cycles = cycles.value;
      counter = counter.value;
      accumulator = accumulator.value;
      x = x.value;
      y = y.value;
      stack = stack.value;
      status = status.value;
      next = mark_at 10 s status.next;
    }

-- the registers and the cycles, with the last level of NMI high
unfoldable pub state_of : Fields → Machine
state_of f =
    machine_of (registers_of f.accumulator f.x f.y f.stack f.counter (pulled_status f.status)) f.cycles true

unfoldable pub spelled_by : Fields → Option Spelled
spelled_by f =
    cond (eqb f.next nowhere) None
    (cond (eqb (pushed_byte (pulled_status f.status)) f.status) (Some (record { machine = state_of f; next = f.next })) None)

-- the line with which a text begins
unfoldable pub line_of : List ℕ → Option Spelled
line_of s = spelled_by (fields_of s)

-- the same line if the text begins at a place of a longer one
abbrev pub line_from : ℕ → Option Spelled → Option Spelled
line_from at (Some q) = Some (record { machine = q.machine; next = at + q.next })
line_from at None = None
