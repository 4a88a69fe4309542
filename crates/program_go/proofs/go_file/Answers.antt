-- What is run is what was read; what is kept is what the run left.
use Rattle.std.proofs.Common.{sym, ◌∙◌}
use Rattle.console.specs.Theorems.Failing.{none_noted}
use Rattle.program_go.specs.Lemmas.Copies.{status_of_lem, file_of}
use Rattle.program_go.proofs.go_file.Goals as goal

pub returns-then-first_of-ne0-clause-value : goal.returns-then-first_of-ne0-clause-value
returns-then-first_of-ne0-clause-value c =
    let status = status_of_lem c.args.work.goal c.args.work.steps c.args.input.now c.args.image.now c.open-opened.result.size c.requires.0 c.open-opened.ensures.start_value.0 c.open-opened.ensures.start_value.1 c.open-opened.ensures.prefix_len.0 c.run_from-ended.ensures in
    rw (← (c.say_ending-status.ensures.value ∙ status)) c.not_written.ensures.value

pub keep-requires-clause-status_value : goal.keep-requires-clause-status_value
keep-requires-clause-status_value c =
    let status = status_of_lem c.args.work.goal c.args.work.steps c.args.input.now c.args.image.now c.open-opened.result.size c.requires.0 c.open-opened.ensures.start_value.0 c.open-opened.ensures.start_value.1 c.open-opened.ensures.prefix_len.0 c.run_from-ended.ensures in
    let file = file_of c.args.work.goal c.args.work.steps c.args.input.now c.args.image.now c.open-opened.result.size c.requires.0 c.open-opened.ensures.start_value.0 c.open-opened.ensures.start_value.1 c.open-opened.ensures.prefix_len.0 c.run_from-ended.ensures in
    let none = none_noted c.say_ending-status.new.console.failed c.say_ending-status.result (sym c.first_of.ensures ∙ c.if-first_of-ne0.false) in
    let zero = sym c.say_ending-status.ensures.value ∙ none.1 in
    (none.1, sym status ∙ zero, file zero c.put_after-after_size.ensures.file_after)

pub returns-clause-value : goal.returns-clause-value
returns-clause-value c =
    let status = status_of_lem c.args.work.goal c.args.work.steps c.args.input.now c.args.image.now c.open-opened.result.size c.requires.0 c.open-opened.ensures.start_value.0 c.open-opened.ensures.start_value.1 c.open-opened.ensures.prefix_len.0 c.run_from-ended.ensures in
    rw (← (c.say_ending-status.ensures.value ∙ status)) c.keep.ensures.value
