-- What is left to write are the entries of the steps that are left, and what the whole run gives is what they give.
use Prim.Native.Nat.{◌+◌, ◌-◌, ◌*◌, ◌≤◌}
use mathlib.Core.Path.{◌≡◌}
use Rattle.manual.specs.Micro.{exec}
use Rattle.manual.specs.Interrupts.{idle}
use Rattle.manual.specs.Stepping.{run_full}
use Rattle.text_writing.specs.Lemmas.Writing.{Remains}
use Rattle.trace_text.specs.Entries.{longest}
use Rattle.trace_steps.specs.Traces.{full_trace}
use Rattle.trace_steps.proofs.put_steps.Given as goal

abbrev pub invariant-loop-steps : goal.invariant-loop-steps
invariant-loop-steps l = (l.out.at ≤ l.fn.out.at + longest l.view * l.steps)
    × Remains l.out (full_trace l.view (l.bound - l.steps) l.left l.memory) l.fn.out (full_trace l.view l.bound l.initial.left l.initial.memory)
    × (exec (run_full l.bound 0 idle l.initial.left) l.initial.memory ≡ exec (run_full (l.bound - l.steps) l.steps idle l.left) l.memory)
