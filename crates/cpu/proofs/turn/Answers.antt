-- The room is tested first. A line that is due is served; where none is, the loop makes the steps.
use Rattle.std.proofs.Common.{sym, ◌∙◌}
use Rattle.manual.proofs.Theorems.Ranges.{vector_within}
use Rattle.cpu.specs.Lemmas.Turning.{turn_late, turn_serves, turn_walks}
use Rattle.cpu.proofs.turn.Goals as goal

pub returns-then-start-gt-HIGHEST_COUNT : goal.returns-then-start-gt-HIGHEST_COUNT
returns-then-start-gt-HIGHEST_COUNT c = turn_late _ _ _ _ c.requires.1.0 c.if-start-gt-HIGHEST_COUNT.true ∙ rw (c.new.ensures, c.new-left.ensures)

pub serve_line-requires : goal.serve_line-requires
serve_line-requires c =
    (vector_within c.args.lines c.args.start _ (sym c.due.ensures ∙ c.in-Some.is), c.if-start-gt-HIGHEST_COUNT.false)

pub walk-requires : goal.walk-requires
walk-requires c = (c.requires.1.0, c.requires.1.1, c.requires.1.2 c.if-start-gt-HIGHEST_COUNT.false)

pub returns-in-Some : goal.returns-in-Some
returns-in-Some c =
    turn_serves _ _ _ _ _ (sym c.due.ensures ∙ c.in-Some.is) c.if-start-gt-HIGHEST_COUNT.false ∙ c.serve_line.ensures

pub returns-in-None : goal.returns-in-None
returns-in-None c = turn_walks _ _ _ (sym c.due.ensures ∙ c.in-None.is) _ c.requires.0 ∙ c.walk.ensures
