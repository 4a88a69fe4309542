use Rattle.std.proofs.Common.{◌≡◌, length, sym, ◌∙◌, arith}
use Rattle.guard.specs.Lemmas.Blanking.{none_yet, one_blanked, one_left, all_blanked}
use Rattle.guard.proofs.extract.blank.Goals as goal
use Rattle.guard.proofs.extract.blank.Goals.{then-is_in, else-is_in}

pub loop-i-init : goal.loop-i-init
loop-i-init c = (omega arith, none_yet _ _)

pub loop-i-preserved : goal.loop-i-preserved
loop-i-preserved c = (
  c.if-is_in.array_long,
  elim c.if-is_in.branch [
    | then-is_in w ↦ rw w.memory-is (one_blanked _ _ _ _ c.loop-i.invariant.1 (omega arith) (sym c.is_in.ensures ∙ w.if-is_in.true))
    | else-is_in w ↦ rw w.memory-is (one_left _ _ _ _ c.loop-i.invariant.1 (sym c.is_in.ensures ∙ w.if-is_in.false))
  ],
)

pub returns : goal.returns
returns c =
    let over : c.loop-i.i ≡ length c.args.memory.now = omega arith in
    all_blanked _ _ _ (omega (arith, c.loop-i.invariant.0)) (rw over at c.loop-i.invariant.1)
