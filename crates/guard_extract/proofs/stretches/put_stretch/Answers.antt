-- Each place adds itself; past the last one all are in.
use Rattle.std.proofs.Common.{arith, ap, sym, refl, ◌∙◌, ◌||◌, ℕ, Bool, inl, inr, ⊎_elim, eqb}
use Rattle.guard_maps.specs.Maps.{in_map}
use Rattle.guard_extract.specs.Lemmas.Stretches.{before, or_none, or_assoc, none_before, one_before, all_before}
use Rattle.guard_extract.proofs.stretches.put_stretch.Goals as goal

pub loop-place-init : goal.loop-place-init
loop-place-init c =
    let have : ℕ → Bool = in_map c.args.map.now in
    (omega arith, inl refl, λ a. or_none (have a) ∙ ap (λ (t : Bool). have a || t) (sym (none_before c.args.first a)))

pub loop-place-preserved : goal.loop-place-preserved
loop-place-preserved c =
    let have : ℕ → Bool = in_map c.args.map.now in
    let first = c.args.first in
    let place = c.loop-place.place in (
      omega (arith, c.loop-place.invariant.0),
      inr (omega (arith, c.loop-place-test.true)),
      λ a.
          c.put_in.ensures a
          ∙ ap (λ (t : Bool). t || eqb a place) (c.loop-place.invariant.2 a)
          ∙ sym (or_assoc (have a) (before first place a) (eqb a place))
          ∙ ap (λ (t : Bool). have a || t) (one_before first place a c.loop-place.invariant.0),
    )

pub returns : goal.returns
returns c =
    let have : ℕ → Bool = in_map c.args.map.now in
    let over = c.loop-place-test.false in
    λ a.
    c.loop-place.invariant.2 a
    ∙ ap (λ (t : Bool). have a || t)
    (all_before c.args.first c.args.last c.loop-place.place a (omega (arith, over)) (⊎_elim inl (λ h. inr (omega (arith, h, over))) c.loop-place.invariant.1))
