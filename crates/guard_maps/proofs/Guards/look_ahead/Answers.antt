-- What is read is looked at first, then what is stored to.
use Rattle.std.proofs.Common.{◌∙◌}
use Rattle.guard_maps.specs.Maps.{in_map}
use Rattle.guard_maps.specs.Lemmas.Finding.{first_read, first_stored}
use Rattle.guard_maps.proofs.Guards.look_ahead.Goals as goal

pub returns-in-Some : goal.returns-in-Some
returns-in-Some c =
    let a = c.args in
    rw (first_read (in_map a.self.reads.now) a.lines a.machine a.memory.now c.first_in.ensures c.reads_full.ensures ∙ c.in-Some.is)

pub returns-in_err-place : goal.returns-in_err-place
returns-in_err-place c =
    let a = c.args in
    rw (
      first_read (in_map a.self.reads.now) a.lines a.machine a.memory.now c.first_in.ensures c.reads_full.ensures ∙ c.in_default.is,
      first_stored (in_map a.self.stores.now) a.lines a.machine a.memory.now c.first_in-2.ensures c.stores_full.ensures ∙ c.in_err-place.was,
    ) c.from_residual.ensures

pub returns : goal.returns
returns c =
    let a = c.args in
    rw (
      first_read (in_map a.self.reads.now) a.lines a.machine a.memory.now c.first_in.ensures c.reads_full.ensures ∙ c.in_default.is,
      first_stored (in_map a.self.stores.now) a.lines a.machine a.memory.now c.first_in-2.ensures c.stores_full.ensures ∙ c.in_ok-place.was,
    )
