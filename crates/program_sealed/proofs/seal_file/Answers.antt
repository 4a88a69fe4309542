-- What is run is what was read; what is kept is what the run left.
use Rattle.std.proofs.Common.{sym, ◌∙◌}
use Rattle.guard_maps.specs.Maps.{in_map}
use Rattle.console.specs.Theorems.Failing.{none_noted}
use Rattle.program_sealed.specs.Lemmas.Copies.{status_of_lem, file_of}
use Rattle.program_sealed.proofs.seal_file.Goals as goal

pub returns-then-first_of-ne0-clause-value : goal.returns-then-first_of-ne0-clause-value
returns-then-first_of-ne0-clause-value c =
    let status = status_of_lem (in_map c.args.sealed.now) c.args.work c.args.input.now c.args.image.now c.requires.image_value.0 c.run_sealed-guarded.ensures c.run_sealed-guarded.auto.image in
    rw (← (c.swear-status.ensures.value ∙ status)) c.not_written.ensures.value

pub keep-requires-clause-status_value : goal.keep-requires-clause-status_value
keep-requires-clause-status_value c =
    let status = status_of_lem (in_map c.args.sealed.now) c.args.work c.args.input.now c.args.image.now c.requires.image_value.0 c.run_sealed-guarded.ensures c.run_sealed-guarded.auto.image in
    let file = file_of (in_map c.args.sealed.now) c.args.work c.args.input.now c.args.image.now c.requires.image_value.0 c.run_sealed-guarded.ensures c.run_sealed-guarded.auto.image in
    let none = none_noted c.swear-status.new.console.failed c.swear-status.result (sym c.first_of.ensures ∙ c.if-first_of-ne0.false) in
    let zero = sym c.swear-status.ensures.value ∙ none.1 in
    (none.1, sym status ∙ zero, file zero c.put_left-after_size.ensures.file_after)

pub returns-clause-value : goal.returns-clause-value
returns-clause-value c =
    let status = status_of_lem (in_map c.args.sealed.now) c.args.work c.args.input.now c.args.image.now c.requires.image_value.0 c.run_sealed-guarded.ensures c.run_sealed-guarded.auto.image in
    rw (← (c.swear-status.ensures.value ∙ status)) c.keep.ensures.value
