-- The line is served.
use Rattle.std.proofs.Common.{refl, ◌∙◌}
use Rattle.manual.specs.Interrupts.{served}
use Rattle.manual.specs.Lemmas.Programs.{then}
use Rattle.cpu.specs.Inner.Turning.{serving}
use Rattle.cpu.proofs.serve_line.Goals as goal

pub returns : goal.returns
unfolding serving
returns c =
    let a = c.args in
    then (served a.vector a.start) _ a.memory.now c.serve-registers.ensures refl ∙ rw (c.new.ensures, c.new-left.ensures)
