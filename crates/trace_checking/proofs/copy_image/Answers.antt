-- One more byte at each turn.
use Rattle.std.proofs.Common.{◌<◌, ◌∙◌, sym, arith, add-one, length, length-set, take-suc, take_all}
use Rattle.std.proofs.Math.Seq.{take-suc-set}
use Rattle.std.specs.Prelude.{get_or}
use Rattle.trace_checking.proofs.copy_image.Goals as goal

pub loop-at-preserved : goal.loop-at-preserved
loop-at-preserved c =
    let at = c.loop-at.at in
    let copy = c.loop-at.copy in
    let image = c.args.image.now in
    let byte = get_or image at 0 in
    let inside : at < length copy = omega (arith, c.loop-at.invariant.0) in (
      length-set copy at byte ∙ c.loop-at.invariant.0,
      rw (add-one at, take-suc-set copy at byte inside, c.loop-at.invariant.1) (sym (take-suc image at 0 (omega arith))),
    )

pub returns : goal.returns
returns c =
    let copy = c.loop-at.copy in
    let image = c.args.image.now in
    sym (take_all c.loop-at.at copy (omega (arith, c.loop-at.invariant.0))) ∙ c.loop-at.invariant.1 ∙ take_all c.loop-at.at image (omega arith)
