-- The room is tested first, then what the step would touch; then the line is served.
use Rattle.std.proofs.Common.{sym, refl, ◌∙◌}
use Rattle.manual.proofs.Lemmas.StepLaws.{step_serves}
use Rattle.guard.specs.Lemmas.Guarding.{guarded_halts, guarded_goes_on, guarded_late, guarded_end}
use Rattle.guard.proofs.serve_line.Goals as goal

pub returns-then-start-gt-HIGHEST_COUNT : goal.returns-then-start-gt-HIGHEST_COUNT
returns-then-start-gt-HIGHEST_COUNT c =
    let a = c.args in
    rw c.new.ensures (sym (guarded_late _ _ 0 _ a.lines a.start a.memory.now c.if-start-gt-HIGHEST_COUNT.true))

pub returns-in-Some : goal.returns-in-Some
returns-in-Some c =
    let a = c.args in
    sym (guarded_halts _ _ 0 a.steps a.lines a.start a.memory.now _ (sym c.look_ahead.ensures ∙ c.in-Some.is))

pub returns : goal.returns
returns c =
    let a = c.args in
    rw (c.new-2.ensures, c.new-left.ensures)
    (sym
    (guarded_goes_on _ _ 0 a.steps a.lines a.start a.memory.now _ _
    (sym c.look_ahead.ensures ∙ c.in_default.is)
    (step_serves a.lines a.start a.memory.now a.vector c.if-start-gt-HIGHEST_COUNT.false c.requires.0 c.serve-registers.ensures)
    refl
    ∙ guarded_end _ _ _ _ _ _))
