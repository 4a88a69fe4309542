-- What is found while it is laid onto no memory.
use Rattle.std.proofs.Common.{ap}
use Rattle.tape_records.specs.Contents.{Loaded}
use Rattle.tape_paper.specs.Tapes.{tape_of}
use Rattle.tape_loading.specs.Answers.{Verdict}
use Rattle.tape_loading.proofs.judge_tape.Goals as goal

found : Loaded → Verdict
found l = record { answer = l.answer; good = l.good; place = l.place }

pub returns : goal.returns
unfolding tape_of found
returns c = ap found c.lay.ensures
