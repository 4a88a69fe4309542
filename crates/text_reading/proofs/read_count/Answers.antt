-- One digit more at each turn.
use Rattle.std.specs.Prelude.{ℕ}
use Rattle.std.proofs.Common.{◌∙◌, ap, arith}
use Rattle.text_reading.specs.declared.Reading.{Reading}
use Rattle.text_reading.specs.Numbers.{count_at}
use Rattle.text_reading.specs.Lemmas.Found.{gone, none, got, somewhere, some, lost_count_after}
use Rattle.text_reading.specs.Lemmas.Counting.{count_full, count_end, count_over, count_more}
use Rattle.text_reading.proofs.read_count.Goals as goal

abbrev next_of : Reading ℕ → ℕ
next_of r = r.next

pub returns-in_err-first : goal.returns-in_err-first
returns-in_err-first c =
    rw c.from_residual.ensures (none _ (lost_count_after c.args.text.now (omega arith) c.args.at (gone _ c.in_err-first.ensures)))

pub loop-init : goal.loop-init
unfolding count_at
loop-init c = (rw (got _ c.in_ok-first.ensures), λ z. somewhere _ c.in_ok-first.ensures (rw (got _ c.in_ok-first.ensures) z))

pub returns-in_err-checked_mul : goal.returns-in_err-checked_mul
returns-in_err-checked_mul c =
    rw (c.from_residual-in_err-checked_mul.ensures, c.loop.invariant.0)
    (none _ (ap next_of (count_over _ _ _ c.in-Some.ensures _ (omega arith) (λ h. c.in_err-checked_mul.ensures (omega arith)))))

pub returns-in_err-value : goal.returns-in_err-value
returns-in_err-value c =
    rw (c.from_residual-in_err-value.ensures, c.loop.invariant.0)
    (none _ (ap next_of (count_over _ _ _ c.in-Some.ensures _ (omega arith) (λ h. c.in_err-value.ensures (omega arith)))))

pub loop-preserved : goal.loop-preserved
loop-preserved c = (
  c.loop.invariant.0 ∙ count_more _ _ _ c.in-Some.ensures _ _ c.in_ok-value.value (omega arith) (omega arith) (omega arith),
  λ z. somewhere _ c.in-Some.ensures (rw (got _ c.in-Some.ensures) z),
)

pub returns-after-loop : goal.returns-after-loop
returns-after-loop c =
    let read = c.loop.invariant.0 ∙ count_full _ _ _ _ (omega arith) in
    rw read (some _ c.loop.invariant.1)

pub returns-in_default : goal.returns-in_default
returns-in_default c =
    let read = c.loop.invariant.0 ∙ count_end _ _ _ _ c.in_default.ensures in
    rw read (some _ c.loop.invariant.1)
