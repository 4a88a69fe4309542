-- The verdict on a text line of the list.
use Rattle.std.specs.Prelude.{ℕ, zero, suc, ◌+◌, Bool, cond, false, List, eqb, leb, ltb, length, get_or, replicate}
use Rattle.registers.specs.StatusByte.{pushed_byte, pulled_status}
use Rattle.manual.specs.Micro.{exec}
use Rattle.manual.specs.Stepping.{step}
use Rattle.replay_list.specs.declared.State.{State}
use Rattle.text_reading.specs.Numbers.{nowhere, mark_at}
use Rattle.statuses.specs.Statuses.{check_status}
use Rattle.replay_list.specs.Lines.{state_at, bar_at, loaded_from, most_cells, line_after}
use Rattle.program_replay.specs.declared.compare.Verdict.{Verdict}
use Rattle.program_replay.specs.declared.line.Line.{Line}
use Rattle.program_replay.specs.declared.Tally.{Tally}
use Rattle.program_replay.specs.Comparison.{machine_at, lines_at, judged}

-- LF, or a space and LF
unfoldable pub end_at : List ℕ → ℕ → ℕ
end_at s at = cond (eqb (mark_at 10 s at) nowhere) (mark_at 10 s (mark_at 32 s at)) (mark_at 10 s at)

-- the opcode is the one in memory, there are three levels, and PHP can push the status
unfoldable pub well_formed : State → List ℕ → Bool
well_formed before m =
    cond (eqb before.number (get_or m before.counter 0))
    (cond (leb before.levels 7) (eqb (pushed_byte (pulled_status before.status)) before.status) false)
    false

-- a memory of 65,536 bytes, all 00
unfoldable pub zeros : List ℕ
zeros = replicate 65536 0

-- a line, the place after it, the memory before its step and the memory after
pub record Lined : Type 0 where
  pub line : Line
  pub next : ℕ
  pub memory : List ℕ
  pub expected : List ℕ

-- `OP LV PC A X Y S P CYCLES | BB@AAAA .. | AN LV PC A X Y S P CYCLES | BB@AAAA ..`: the memory after is the one before with the last list stored
unfoldable pub line_at : List ℕ → ℕ → Lined
line_at s at =
    let before = state_at s at in
    let loaded = loaded_from most_cells s (bar_at s before.next) zeros in
    let after = state_at s (mark_at 32 s (bar_at s loaded.0)) in
    let stored = loaded_from most_cells s (bar_at s after.next) loaded.1 in
    record {
      line = record { before = before; after = after };
      next = end_at s stored.0;
      memory = loaded.1;
      expected = stored.1;
    }

-- the definition's step from the state and the memory before, against those after
unfoldable pub verdict_on : Lined → Verdict
verdict_on l =
    cond (eqb l.next nowhere) Verdict.Malformed
    (cond (well_formed l.line.before l.memory)
    (judged (exec (step (length l.memory) (lines_at l.line.before) (machine_at l.line.before)) l.memory) (lines_at l.line.before)
    l.line.after l.expected)
    Verdict.Malformed)

unfoldable pub line_verdict : List ℕ → ℕ → Verdict
line_verdict s at = verdict_on (line_at s at)

-- how many faults a verdict is
abbrev pub faults : Verdict → ℕ
faults Verdict.Same = 0
faults Verdict.Malformed = 1
faults Verdict.Answer = 1
faults Verdict.Counter = 1
faults Verdict.Accumulator = 1
faults Verdict.X = 1
faults Verdict.Y = 1
faults Verdict.Stack = 1
faults Verdict.Status = 1
faults Verdict.Cycles = 1
faults Verdict.Levels = 1
faults Verdict.Memory = 1

-- at most n more lines from a place on, beside those that are counted already
unfoldable pub tally_from : ℕ → List ℕ → ℕ → ℕ → ℕ → Tally
tally_from zero s at lines differ = record { lines = lines; differ = differ }
tally_from (suc n) s at lines differ =
    cond (ltb at (length s)) (tally_from n s (line_after s at) (lines + 1) (differ + faults (line_verdict s at)))
    (record { lines = lines; differ = differ })

-- a text has no more lines than characters
unfoldable pub tally_of : List ℕ → Tally
tally_of s = tally_from (length s) s 0 0 0

-- the status of a list that was read into a buffer of 2,097,152 bytes: if it fills it, there may be more
abbrev pub replay_status : List ℕ → ℕ
replay_status s = cond (eqb (length s) 2097152) 1 (check_status (tally_of s).lines (tally_of s).differ)
