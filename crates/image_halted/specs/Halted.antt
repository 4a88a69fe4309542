-- A halted run in one file, and what a file opens to.
use Rattle.std.specs.Prelude.{ℕ, Bool, false, cond, List, ◌++◌, eqb, length, take, drop, Option, Some, None}
use Rattle.manual.specs.declared.Machine.{Machine}
use Rattle.manual.specs.Stepping.{full_memory}
use Rattle.trace_line.specs.declared.Spelled.{Spelled}
use Rattle.trace_line.specs.Fields.{line_of, line_from}
use Rattle.trace_line.specs.Lines.{line_text}
use Rattle.statuses.specs.declared.Goal.{Goal}
use Rattle.statuses.specs.declared.Goal.TheVariants.{Unnamed, At, AllSteps}

-- the memory, and then the line of the state
abbrev pub halted_run : Machine → List ℕ → List ℕ
halted_run s m = m ++ line_text s

-- the line that stands after the memory
abbrev pub state_in : List ℕ → Option Spelled
state_in file = line_from full_memory (line_of (drop full_memory file))

-- it is one, and ends there
abbrev pub ends_at : ℕ → Option Spelled → Bool
ends_at size (Some q) = eqb q.next size
ends_at size None = false

abbrev pub is_halted : List ℕ → Bool
is_halted file = ends_at (length file) (state_in file)

-- ---- what a file opens to

-- from the state, if that line ends the file
abbrev pub start_by : ℕ → Option Spelled → Option Machine
start_by size (Some q) = cond (eqb q.next size) (Some q.machine) None
start_by size None = None

-- where its run begins
unfoldable pub start_of : List ℕ → Option Machine
start_of file = start_by (length file) (state_in file)

abbrev pub memory_by : Option Machine → List ℕ → List ℕ
memory_by None file = file
memory_by (Some s) file = take full_memory file

-- what of it is the memory: a file that is no halted run is an image, of whatever length
unfoldable pub memory_of : List ℕ → List ℕ
memory_of file = memory_by (start_of file) file

-- ---- what a run leaves

-- a run that was meant to make all its steps is halted and goes on later; any other is finished, and leaves a memory
abbrev pub after_file : Goal → Machine → List ℕ → List ℕ
after_file Unnamed s m = m
after_file (At address) s m = m
after_file AllSteps s m = halted_run s m
