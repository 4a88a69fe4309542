-- The loop's invariant: the whole run is what was made and the run of what is left from here; a failure stays.
use Rattle.std.proofs.Common.{◌≤◌, ◌-◌, ◌≡◌, length, true}
use Rattle.manual.specs.Micro.{exec}
use Rattle.manual.specs.Interrupts.{idle}
use Rattle.manual.specs.Stepping.{long_run}
use Rattle.manual_parts.specs.Lemmas.Parts.{Whole}
use Rattle.console.specs.Failing.{FailureStays}
use Rattle.console_showing.proofs.parts.run_in_parts.Given as goal

abbrev pub invariant-loop-made : goal.invariant-loop-made
invariant-loop-made g l =
    (l.made ≤ l.steps) × (length l.image ≡ length l.initial.image) × Whole (exec (long_run (length l.initial.image) l.steps idle l.initial.machine) l.initial.image) l.made (length l.image) (l.steps - l.made) l.machine l.image × FailureStays l.initial.console.failed l.console.failed × (g.P.Parts.quiet ≡ true → l.console.failed ≡ l.initial.console.failed)

abbrev pub decreases-loop-made : goal.decreases-loop-made
decreases-loop-made g l = l.steps - l.made
