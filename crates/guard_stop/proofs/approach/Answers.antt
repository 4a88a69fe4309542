-- With IRQ low one step; with IRQ high what the guarded run leaves, by whether the machine is at the address or has moved.
use borrow.Author.Tests.{not-false}
use Rattle.std.proofs.Common.{sym, ◌∙◌, arith}
use Rattle.guard_stop.specs.Lemmas.Nearing.{told_by, once_nears, ran_there, ran_elsewhere, halted_later, halted_first}
use Rattle.guard_stop.proofs.approach.Goals as goal

pub step_once-requires : goal.step_once-requires
step_once-requires c = (c.requires.1, omega (arith, c.requires.2, c.ranges.bound.fits))

pub returns-then-not-lines : goal.returns-then-not-lines
returns-then-not-lines c = once_nears _ _ _ _ _ _ c.requires.3 c.requires.2 c.step_once.ensures

pub returns-then-is_at : goal.returns-then-is_at
returns-then-is_at c =
    rw c.new.ensures
    (ran_there _ _ _ _ c.requires.0 (not-false _ c.if-not-lines.false) _ _ _ c.requires.3 c.requires.2 _ _ (told_by (rw c.requires.1 at c.guarded_part.ensures) c.in-Ok.is) (sym c.is_at.ensures ∙ c.if-is_at.true))

pub returns-else-is_at : goal.returns-else-is_at
returns-else-is_at c =
    ran_elsewhere _ _ _ _ c.requires.0 (not-false _ c.if-not-lines.false) _ _ _ c.requires.3 c.requires.2 _ _ (told_by (rw c.requires.1 at c.guarded_part.ensures) c.in-Ok.is) (sym c.is_at.ensures ∙ c.if-is_at.false)

pub returns-then-steps-halt : goal.returns-then-steps-halt
returns-then-steps-halt c =
    rw c.new-then-steps-halt.ensures
    (halted_later _ _ _ _ c.requires.0 (not-false _ c.if-not-lines.false) _ _ _ c.requires.3 c.requires.2 _ _ (told_by (rw c.requires.1 at c.guarded_part.ensures) c.in-Err.is) c.if-steps-halt.true)

pub step_once-requires-in-Err : goal.step_once-requires-in-Err
step_once-requires-in-Err c = (c.requires.1, omega (arith, c.requires.2, c.ranges.bound.fits))

pub returns-else-steps-halt : goal.returns-else-steps-halt
returns-else-steps-halt c =
    let kept = halted_first _ _ _ _ c.requires.0 (not-false _ c.if-not-lines.false) _ _ _ c.requires.3 c.requires.2 _ _ (told_by (rw c.requires.1 at c.guarded_part.ensures) c.in-Err.is) c.if-steps-halt.false in
    once_nears _ _ _ _ _ _ c.requires.3 c.requires.2 (rw kept at c.step_once-in-Err.ensures)
