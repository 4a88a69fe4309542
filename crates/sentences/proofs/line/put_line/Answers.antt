-- By whether there is a memory.
use Rattle.std.proofs.Common.{arith}
use Rattle.text_writing.specs.Lemmas.Writing.{ends_within}
use Rattle.sentences.specs.Line.{line}
use Rattle.sentences.specs.Lemmas.Lengths.{other_number}
use Rattle.sentences.proofs.line.put_line.Goals as goal

pub returns-in-MemoryNotFull : goal.returns-in-MemoryNotFull
unfolding line
returns-in-MemoryNotFull c =
    let wrote = c.put_text.ensures in
    rw c.in-MemoryNotFull.is (record { wrote = wrote; upper_bound = ends_within wrote (omega arith) })

pub returns-in_default : goal.returns-in_default
unfolding line
returns-in_default c = rw (other_number _ c.in_default.not-MemoryNotFull) c.put_fields.ensures
