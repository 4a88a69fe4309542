-- A run turn by turn: what one turn makes of what is left of it.
use Rattle.std.specs.Prelude.{◌≡◌, ℕ, ◌+◌, ◌-◌, ◌<◌, ◌≤◌, true, false, List}
use Rattle.std.proofs.Common.{ap, ◌∙◌, subst, arith}
use Rattle.std.proofs.Math.Path.{sym}
use Rattle.manual.specs.declared.Lines.{Lines}
use Rattle.manual.specs.declared.Machine.{Machine}
use Rattle.manual.specs.declared.Reason.TheVariants.{Made}
use Rattle.manual.specs.Micro.{exec, Gives}
use Rattle.manual.specs.Outcomes.{is_made, ended}
use Rattle.manual.specs.Stepping.{run_full}
use Rattle.manual.proofs.Lemmas.StepLaws.{run_end}
use Rattle.manual.proofs.Theorems.Lunch.{added, added_none, added_twice}
use Rattle.cpu.specs.declared.Travelled.{Travelled}
use Rattle.cpu.specs.Inner.Turning.{Calm, Fits, fitting, going, turning, settled}
use Rattle.cpu.specs.Lemmas.Turning.{reach_calm, going_fits, going_most, turn_few, turn_stops, turn_goes}

-- Of a run of `bound` steps `steps` are made: what is left of it goes on from the machine.
pub record Round (bound : ℕ) (lines : Lines) (s₀ : Machine) (m₀ : List ℕ) (steps : ℕ) (s : Machine) (m : List ℕ) : Type 0 where
  pub made : steps ≤ bound
  pub rest : exec (run_full bound 0 lines s₀) m₀ ≡ added steps (exec (run_full (bound - steps) 0 lines s) m)

module _ (bound : ℕ) (lines : Lines) (s₀ : Machine) (m₀ : List ℕ) where
  pub at_first : Round bound lines s₀ m₀ 0 s₀ m₀
  at_first = record {
    made = omega arith;
    rest = let e : bound ≡ bound - 0 = omega arith in ap (λ (n : ℕ). exec (run_full n 0 lines s₀) m₀) e ∙ added_none _;
  }

  module _ {steps : ℕ} {s : Machine} {m : List ℕ} (round : Round bound lines s₀ m₀ steps s m) where
    -- if all steps are made
    pub at_last : bound ≤ steps → exec (run_full bound 0 lines s₀) m₀ ≡ (ended Made steps s, m)
    at_last all =
        let none : bound - steps ≡ 0 = omega arith in
        let same : steps + 0 ≡ steps = omega arith in
        round.rest
        ∙ ap (λ (n : ℕ). added steps (exec (run_full n 0 lines s) m)) none
        ∙ ap (added steps) (run_end 0 lines s m)
        ∙ ap (λ (k : ℕ). (ended Made k s, m)) same

    module _ (far : ℕ) (goes_far : far ≡ going lines s.cycles (bound - steps)) (less : steps < bound) where
      left : 0 < bound - steps
      left = omega arith

      pub calm : Calm lines far
      calm = subst (λ (k : ℕ). Calm lines k) (sym goes_far) (reach_calm lines (fitting (bound - steps) s.cycles))

      pub fits : Fits s.cycles far
      fits = subst (λ (k : ℕ). Fits s.cycles k) (sym goes_far) (going_fits lines s.cycles (bound - steps) left)

      most : far ≤ bound - steps
      most = subst (λ (k : ℕ). k ≤ bound - steps) (sym goes_far) (going_most lines s.cycles (bound - steps) left)

      module _ {r : Travelled} {m' : List ℕ} (gives : Gives (turning far lines s) m r m') where
        few : r.ended.steps ≤ bound - steps
        few = turn_few lines s (bound - steps) far fits.0 most m gives

        pub no_more : steps + r.ended.steps ≤ bound
        no_more = omega (arith, few, less)

        -- if it was stopped, so is the run
        pub stops : is_made r.ended.reason ≡ false
            → exec (run_full bound 0 lines s₀) m₀ ≡ added steps (settled s r.ended, m')
        stops f = round.rest ∙ ap (added steps) (turn_stops lines s (bound - steps) far fits.0 most m gives f)

        -- if it was not, the run goes on
        module _ (h : is_made r.ended.reason ≡ true) where
          pub some : 0 < r.ended.steps
          some = (turn_goes lines s (bound - steps) far fits.0 most m gives h).0

          pub goes : Round bound lines s₀ m₀ (steps + r.ended.steps) (settled s r.ended).machine m'
          goes = record {
            made = no_more;
            rest = let e : (bound - steps) - r.ended.steps ≡ bound - (steps + r.ended.steps) = omega arith in
                round.rest
                ∙ ap (added steps) (turn_goes lines s (bound - steps) far fits.0 most m gives h).1
                ∙ added_twice steps r.ended.steps _
                ∙ ap (λ (k : ℕ). added (steps + r.ended.steps) (exec (run_full k 0 lines (settled s r.ended).machine) m')) e;
          }
