use Rattle.std.proofs.Common.{◌+◌, ◌≡◌, arith, refl, sym, ◌∙◌}
use denote.Enum.Bare.{differs_true, differs_false}
use Rattle.console.specs.Theorems.Failing.{stays_on}
use Rattle.program_replay.specs.contracts.compare.Verdict.{the_type}
use Rattle.program_replay.specs.declared.compare.Verdict.{Verdict}
use Rattle.program_replay.specs.Verdicts.{faults}
use Rattle.program_replay.specs.Lemmas.Replay.{one_fault, tally_start, tally_end, tally_more}
use Rattle.program_replay.proofs.replay.Goals.{then-ne, else-ne}
use Rattle.program_replay.proofs.replay.Goals as goal

pub loop-at-init : goal.loop-at-init
loop-at-init c = (omega arith, omega arith, tally_start _, λ h. refl)

pub loop-at-preserved : goal.loop-at-preserved
loop-at-preserved c =
    let more =
    rw (← c.next_line-at.ensures.value, ← c.replay_line-verdict.ensures)
    at (c.loop-at.invariant.2
    ∙ tally_more c.args.text.now c.loop-at.at c.loop-at.lines c.loop-at.differ c.loop-at.invariant.0 (omega arith)) in
    elim c.if-ne.branch [
      | then-ne w ↦ let one = one_fault c.replay_line-verdict.result (differs_true the_type _ _ (sym w.if-ne.ensures)) in (
        omega (arith, c.next_line-at.ensures.lower_bound (omega arith)),
        omega (arith, w.differ-is, c.loop-at.invariant.1),
        rw (w.differ-is) (rw one at more),
        rw w.console-is (stays_on c.loop-at.invariant.3 w.tell.ensures),
      )
      | else-ne w ↦ let same = differs_false the_type tt c.replay_line-verdict.result Verdict.Same (sym w.if-ne.ensures) in
          let none : c.loop-at.differ + faults c.replay_line-verdict.result ≡ c.loop-at.differ = rw same (omega arith) in (
            omega (arith, c.next_line-at.ensures.lower_bound (omega arith)),
            omega (arith, w.differ-is, c.loop-at.invariant.1),
            rw (w.differ-is) (rw none at more),
            rw w.console-is c.loop-at.invariant.3,
          )
    ]

pub returns-clause-value : goal.returns-clause-value
returns-clause-value c = sym (c.loop-at.invariant.2 ∙ tally_end _ _ _ _ _ (omega arith))
