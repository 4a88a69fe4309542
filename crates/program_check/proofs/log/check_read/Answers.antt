-- What is checked is what was kept and what was read.
use Rattle.program_check.specs.Lemmas.Turns.{turned}
use Rattle.program_check.proofs.log.check_read.Goals as goal

pub returns-clause-goes : goal.returns-clause-goes
returns-clause-goes c =
    turned _ _ _ _ c.args.found _ (record { found = c.tally-found.result; kept = c.keep_rest-kept.result; more = c.goes_on-more.result }) c.requires.0 c.requires.1 c.whole_lines-whole.ensures.value c.part_end-end.ensures.value c.part_end-end.ensures.upper_bound.0 c.check_part-part.ensures.copy_after c.check_part-part.ensures.lines_in_bounds c.keep_rest-kept.ensures.buffer_after c.keep_rest-kept.ensures.value c.goes_on-more.ensures c.tally-found.ensures
