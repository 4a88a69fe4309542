-- The exit status of a program (README.md).
use Rattle.std.specs.Prelude.{ℕ, Bool, false, cond, List, ◌++◌, eqb}
use Rattle.laws.specs.Answers.{not_refused, memory_not_full, not_an_opcode, malformed_entry}
use Rattle.manual.specs.declared.Ended.{Ended}
use Rattle.manual.specs.Outcomes.{number}
use Rattle.laws.specs.Characters.{characters}
use Rattle.text_writing.specs.Numerals.{decimal}
use Rattle.statuses.specs.declared.Goal.{Goal}
use Rattle.statuses.specs.declared.Goal.TheVariants.{Unnamed, At, AllSteps}

-- Without an address nothing counts as finished. With one a byte that is no opcode has to stand there, and the run to have met it.
unfoldable pub reached : Goal → Ended → Bool
reached Unnamed q = false
reached (At address) q = cond (eqb (number q.reason) not_an_opcode) (eqb q.machine.registers.counter address) false
reached AllSteps q = eqb (number q.reason) not_refused

-- 20: still running
unfoldable pub end_status : Goal → Ended → ℕ
end_status goal q = cond (reached goal q) 0 (cond (eqb (number q.reason) not_refused) 20 (number q.reason))

-- a list without a line has shown nothing
abbrev pub check_status : ℕ → ℕ → ℕ
check_status lines faults = cond (eqb lines 0) 1 (cond (eqb faults 0) 0 1)

-- 21: a rescued tape is not a whole tape. If nothing was dropped the old one may still be cut off: then what its reader answers.
abbrev pub rescue_status : ℕ → ℕ → ℕ → ℕ
rescue_status answer dropped read = cond (eqb answer not_refused) (cond (eqb dropped 0) read 21) answer

-- 11: a log without an entry
abbrev pub log_status : ℕ → ℕ → ℕ → ℕ
log_status size answer lines = cond (eqb size 65536) (cond (eqb answer not_refused) (cond (eqb lines 0) malformed_entry 0) answer) memory_not_full

-- of two pieces of work, the first one's unless that is 0
abbrev pub first_of : ℕ → ℕ → ℕ
first_of before now = cond (eqb before 0) now before

-- what a program writes to descriptor 3
abbrev pub status_line : ℕ → List ℕ
status_line status = characters "status " ++ decimal status ++ characters "\n"

-- the most characters that it has
abbrev pub longest_status : ℕ
longest_status = 16
