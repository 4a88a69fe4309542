-- Each way out is one of the laws on what is found, of the numbers that were read.
use Rattle.std.proofs.Common.{◌∙◌, arith}
use Rattle.text_reading.specs.Lemmas.Found.{gone, got, somewhere, gone_place, got_place}
use Rattle.tape_records.specs.Lemmas.Finding.{no_mark, no_count, no_sum, cut_short, no_address, whole_record}
use Rattle.tape_records.proofs.read_record.Goals as goal

pub returns-in_err-read_mark : goal.returns-in_err-read_mark
returns-in_err-read_mark c = c.from_residual.ensures ∙ no_mark _ _ (omega arith) (gone_place _ c.in_err-read_mark.ensures)

pub returns-in_err-count : goal.returns-in_err-count
returns-in_err-count c =
    c.from_residual-in_err-count.ensures ∙ no_count _ _ (omega arith) (got_place _ c.in_ok-read_mark.ensures) (gone _ c.in_err-count.ensures)

pub returns-in_err-sum : goal.returns-in_err-sum
returns-in_err-sum c =
    c.from_residual-in_err-sum.ensures
    ∙ no_sum _ _ (omega arith) (got_place _ c.in_ok-read_mark.ensures) (got _ c.in_ok-count.ensures) (omega arith) (somewhere _ c.in_ok-count.ensures) (gone _ c.in_err-sum.ensures)

pub returns-in_err-last : goal.returns-in_err-last
returns-in_err-last c =
    c.from_residual-in_err-last.ensures
    ∙ cut_short _ _ (omega arith) (got_place _ c.in_ok-read_mark.ensures) (got _ c.in_ok-count.ensures) (omega arith) (somewhere _ c.in_ok-count.ensures) (got _ c.in_ok-sum.ensures)
    (gone _ c.in_err-last.ensures)

pub returns-in_err-address : goal.returns-in_err-address
returns-in_err-address c =
    c.from_residual-in_err-address.ensures
    ∙ no_address _ _ (omega arith) (got_place _ c.in_ok-read_mark.ensures) (got _ c.in_ok-count.ensures) (omega arith) (somewhere _ c.in_ok-count.ensures) (got _ c.in_ok-sum.ensures)
    (somewhere _ c.in_ok-last.ensures) (gone _ c.in_err-address.ensures)

pub returns : goal.returns
returns c =
    whole_record _ _ (omega arith) (got_place _ c.in_ok-read_mark.ensures) (got _ c.in_ok-count.ensures) (omega arith) (somewhere _ c.in_ok-count.ensures) (got _ c.in_ok-sum.ensures)
    (somewhere _ c.in_ok-last.ensures) (got _ c.in_ok-last.ensures) (got _ c.in_ok-address.ensures)
