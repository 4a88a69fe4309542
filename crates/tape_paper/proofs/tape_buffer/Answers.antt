-- The length of a repeat, by its law: it is too long to be counted out.
use Rattle.laws.specs.Lemmas.Repeats.{repeat_length}
use Rattle.tape_paper.proofs.tape_buffer.Goals as goal

pub returns : goal.returns
returns c = repeat_length 1048576
