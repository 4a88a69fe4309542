-- By the reader's answer; a sentence is short.
use Rattle.std.proofs.Common.{Some, None, ne_eqb, arith}
use Rattle.text_writing.specs.Lemmas.Writing.{after, ends_within}
use Rattle.text_writing.specs.Written.{Writes}
use Rattle.text_writing.specs.Lemmas.Refusals.{never_good}
use Rattle.tape_rescuing.specs.Sentence.{read_answer, kept_sentence}
use Rattle.tape_rescuing.specs.Lemmas.Lengths.{kept_length}
use Rattle.tape_rescuing.proofs.sentence.put_none_dropped.Goals as goal

pub returns-in-None : goal.returns-in-None
returns-in-None c =
    let wrote : Writes c.args.out.now (kept_sentence c.args.kept (read_answer None)) c.put_text-in-None.new.self =
    after (after c.put_text.ensures c.put_kept_records.ensures) c.put_text-in-None.ensures in
    rw c.in-None.is (record { wrote = wrote; upper_bound = ends_within wrote (kept_length c.args.kept (read_answer None) (omega arith)) })

pub returns-in-Some : goal.returns-in-Some
returns-in-Some c =
    let wrote : Writes c.args.out.now (kept_sentence c.args.kept (read_answer (Some c.in-Some.field-0))) c.put_text-in-Some.new.self =
    rw (ne_eqb _ _ (never_good c.in-Some.field-0)) (after c.put_kept_records-in-Some.ensures c.put_text-in-Some.ensures) in
    rw c.in-Some.is (record { wrote = wrote; upper_bound = ends_within wrote (kept_length c.args.kept (read_answer (Some c.in-Some.field-0)) (omega arith)) })
