-- What was kept is still there, and more was read.
use Rattle.std.proofs.Common.{eqb-true}
use Rattle.program_check.specs.Lemmas.Turns.{nothing}
use Rattle.program_check.proofs.log.check_some.Goals as goal

pub returns-clause-more : goal.returns-clause-more
returns-clause-more c = λ z.
    (_, _, rw c.read_more-size.ensures.buffer_unchanged at c.check_read.ensures.goes, (λ e. nothing c.read_more-size.result c.args.kept _ (eqb-true _ _ e)))
