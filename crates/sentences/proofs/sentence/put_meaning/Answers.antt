-- By cases of the reason.
use Rattle.std.proofs.Common.{arith}
use Rattle.text_writing.specs.Lemmas.Writing.{ends_within}
use Rattle.sentences.specs.Sentence.{meaning}
use Rattle.sentences.proofs.sentence.put_meaning.Goals as goal

pub returns-in-Made : goal.returns-in-Made
unfolding meaning
returns-in-Made c = rw c.in-Made.is c.put_running.ensures

pub returns-in-MemoryNotFull : goal.returns-in-MemoryNotFull
unfolding meaning
returns-in-MemoryNotFull c = rw c.in-MemoryNotFull.is c.put_refused.ensures

pub returns-in-NoCycleRoom : goal.returns-in-NoCycleRoom
unfolding meaning
returns-in-NoCycleRoom c =
    let wrote = c.put_text.ensures in
    rw c.in-NoCycleRoom.is (record { wrote = wrote; upper_bound = ends_within wrote (omega arith) })

pub returns-in-NotAnOpcode : goal.returns-in-NotAnOpcode
unfolding meaning
returns-in-NotAnOpcode c =
    let wrote = rw c.peek.ensures at c.put_stop.ensures in
    rw c.in-NotAnOpcode.is (record { wrote = wrote; upper_bound = ends_within wrote (omega arith) })

pub returns-in-BoundTooHigh : goal.returns-in-BoundTooHigh
unfolding meaning
returns-in-BoundTooHigh c =
    let wrote = c.put_text-in-BoundTooHigh.ensures in
    rw c.in-BoundTooHigh.is (record { wrote = wrote; upper_bound = ends_within wrote (omega arith) })
