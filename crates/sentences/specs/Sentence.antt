-- How a run ended, in a sentence. The image is the one that the run left.
use Rattle.std.specs.Prelude.{ℕ, cond, List, ◌++◌, get_or}
use Rattle.manual.specs.declared.Ended.{Ended}
use Rattle.manual.specs.declared.Reason.{Reason}
use Rattle.manual.specs.declared.Reason.TheVariants.{Made, MemoryNotFull, NoCycleRoom, NotAnOpcode, BoundTooHigh}
use Rattle.manual.specs.Outcomes.{is_made}
use Rattle.laws.specs.Characters.{characters}
use Rattle.image_halted.specs.Halted.{is_halted}
use Rattle.text_writing.specs.Numerals.{hex2, hex4, decimal}
use Rattle.statuses.specs.declared.Goal.{Goal}
use Rattle.statuses.specs.Statuses.{reached}

abbrev pub stop : ℕ → ℕ → List ℕ
stop b counter = characters "stopped: the byte " ++ hex2 b ++ characters " at " ++ hex4 counter ++ characters " is no documented opcode\n"

abbrev pub running : ℕ → List ℕ
running steps = characters "not finished: the program was still running after " ++ decimal steps ++ characters " steps\n"

-- an image that is not 65,536 bytes long: it may be a halted run
unfoldable pub refused : List ℕ → List ℕ
refused image =
    cond (is_halted image) (characters "refused: it is a halted run, which only go takes\n") (characters "refused: the image is not 65536 bytes long\n")

-- the steps that were made, the counter where the run ended, and the image
unfoldable pub meaning : Reason → ℕ → ℕ → List ℕ → List ℕ
meaning Made steps counter image = running steps
meaning MemoryNotFull steps counter image = refused image
meaning NoCycleRoom steps counter image = characters "stopped: the cycle count has no room for another step\n"
meaning NotAnOpcode steps counter image = stop (get_or image counter 0) counter
meaning BoundTooHigh steps counter image = characters "refused: more than 1000000 steps were asked for\n"

abbrev pub all_made : ℕ → List ℕ
all_made steps = characters "done: all " ++ decimal steps ++ characters " steps were made\n"

abbrev pub ended_at : ℕ → List ℕ
ended_at counter = characters "done: it ended at " ++ hex4 counter ++ characters ", as it was meant to\n"

-- if the run ended as it was meant to
unfoldable pub done : Reason → ℕ → ℕ → List ℕ
done reason steps counter = cond (is_made reason) (all_made steps) (ended_at counter)

unfoldable pub sentence : Goal → Ended → List ℕ → List ℕ
sentence goal q image =
    let counter = q.machine.registers.counter in
    cond (reached goal q) (done q.reason q.steps counter) (meaning q.reason q.steps counter image)

-- the most characters that it has
abbrev pub longest_sentence : ℕ
longest_sentence = 80
