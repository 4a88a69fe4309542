-- The length of a repeat, by its law: it is too long to be counted out.
use Rattle.laws.specs.Lemmas.Repeats.{repeat_length}
use Rattle.program_replay.proofs.list_buffer.Goals as goal

pub returns : goal.returns
returns c = repeat_length 2097152
