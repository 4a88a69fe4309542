-- The two parts and LF.
use Rattle.text_writing.specs.Lemmas.Writing.{after}
use Rattle.program_survey.specs.Line.{line}
use Rattle.program_survey.proofs.line.put_line.Goals as goal

pub returns-clause-wrote : goal.returns-clause-wrote
unfolding line
returns-clause-wrote c = after (after c.put_read.ensures.wrote c.put_rescued.ensures.wrote) c.put_byte.ensures
