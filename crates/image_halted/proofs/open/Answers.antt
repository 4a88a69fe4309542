-- By the line that was read after the memory.
use Rattle.std.proofs.Common.{sym, ◌∙◌, arith, length, take_all, length-take-le}
use Rattle.image_halted.specs.Lemmas.Opening.{opens, whole, longer, plain}
use Rattle.image_halted.proofs.open.Goals as goal

pub returns-in-Some : goal.returns-in-Some
returns-in-Some c =
    let f = c.args.file.now in
    let inside = whole f c.in-Some.ensures c.if-spelled-file.true in
    record { start_value = opens f c.in-Some.ensures c.if-spelled-file.true; prefix_len = (inside, sym (length-take-le _ f inside)) }

pub returns-in_default : goal.returns-in_default
returns-in_default c =
    let f = c.args.file.now in
    let opened = longer f c.in-Some.ensures c.if-spelled-file.false in
    record { start_value = (opened.0, take_all (length f) f (omega arith) ∙ opened.1); prefix_len = (omega arith, sym (length-take-le (length f) f (omega arith))) }

pub returns-in_default-2 : goal.returns-in_default-2
returns-in_default-2 c =
    let f = c.args.file.now in
    let opened = plain f c.in_default.ensures in
    record { start_value = (opened.0, take_all (length f) f (omega arith) ∙ opened.1); prefix_len = (omega arith, sym (length-take-le (length f) f (omega arith))) }
