-- By the verdict; a sentence is short.
use Rattle.std.proofs.Common.{Ok, Err, arith}
use Rattle.text_writing.specs.Written.{Writes}
use Rattle.tape_loading.specs.Answers.{verdict_in}
use Rattle.tape_loading.specs.Sentence.{sentence}
use Rattle.tape_loading.specs.Lemmas.Lengths.{said, bad_text}
use Rattle.tape_loading.proofs.sentence.put_sentence.Goals as goal

pub returns-in-Ok : goal.returns-in-Ok
unfolding sentence
returns-in-Ok c =
    let w : Writes c.args.out.now (sentence c.args.format (verdict_in (Ok c.in-Ok.reach))) c.put_good.new.out = c.put_good.ensures in
    rw c.in-Ok.is (record { wrote = w; upper_bound = said c.args.format (verdict_in (Ok c.in-Ok.reach)) (omega arith) (omega arith) w })

pub returns-in-MemoryNotFull-clause-wrote : goal.returns-in-MemoryNotFull-clause-wrote
unfolding sentence
returns-in-MemoryNotFull-clause-wrote c = rw (c.in-Err.is, c.in-MemoryNotFull.is) c.put_text.ensures

pub returns-in_default : goal.returns-in_default
returns-in_default c =
    let w : Writes c.args.out.now (sentence c.args.format (verdict_in (Err c.in-Err.fault))) c.put_bad.new.out =
    rw (bad_text c.args.format c.in-Err.fault.reach c.in-Err.fault.reason c.in_default.not-MemoryNotFull) c.put_bad.ensures in
    rw c.in-Err.is (record { wrote = w; upper_bound = said c.args.format (verdict_in (Err c.in-Err.fault)) (omega arith) (omega arith) w })
