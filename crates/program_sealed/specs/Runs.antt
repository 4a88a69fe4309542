-- The run of a file by sealed, its status, and the file that it leaves. `sealed` are the addresses that the word says.
use Rattle.std.specs.Prelude.{ℕ, Bool, List, Ok, Err}
use Rattle.statuses.specs.declared.Goal.{Goal}
use Rattle.image_halted.specs.Halted.{after_file}
use Rattle.guard.specs.Guarded.{Guarded}
use Rattle.guard_extract.specs.Extract.{image_extract}
use Rattle.guard_extract.specs.Words.{sealed_status}
use Rattle.program_sealed.specs.declared.Work.{Work}

unfoldable pub run_status : (ℕ → Bool) → Work → List ℕ → ℕ
run_status sealed w file = sealed_status w.goal (image_extract sealed w.steps file).0

-- as go's, if it was not halted
abbrev pub left_file : Goal → Guarded → List ℕ → List ℕ
left_file goal (Ok q) m = after_file goal q.machine m
left_file goal (Err h) m = m

-- what AFTER holds if the status is 0
unfoldable pub run_after : (ℕ → Bool) → Work → List ℕ → List ℕ
run_after sealed w file = let x = image_extract sealed w.steps file in left_file w.goal x.0 x.1

-- no word that Linux hands to a program is longer
abbrev pub longest_word : ℕ
longest_word = 131072
