-- A mode that leads to a byte reads it last, so that what is stored to by it is the last of what is read.
use Rattle.std.specs.Prelude.{◌≡◌, ℕ, ◌-◌, ◌<◌, ◌≤◌, List, ◌∷◌, slice_index, refl}
use Rattle.std.proofs.Common.{ap, ◌∙◌, arith}
use Rattle.registers.specs.declared.Registers.{Registers}
use Rattle.footprint.specs.declared.places.Footprint.{Footprint}
use Rattle.footprint.specs.declared.ways.Target.{Target}
use Rattle.footprint.specs.Places.{footprint_of}
use Rattle.footprint.specs.Inner.Ways.{read_to, target_of}

module _ (r : Registers) (m : List ℕ) where
  abbrev read : Target → Footprint
  read t = footprint_of (r.counter ∷ read_to t r m)

  some : (t : Target) → (0 < (read t).count) × ((read t).count ≤ 5)
  unfolding read_to
  some Target.ZeroPage = (omega arith, omega arith)
  some Target.ZeroPageX = (omega arith, omega arith)
  some Target.ZeroPageY = (omega arith, omega arith)
  some Target.Absolute = (omega arith, omega arith)
  some Target.AbsoluteX = (omega arith, omega arith)
  some Target.AbsoluteY = (omega arith, omega arith)
  some Target.IndexedIndirectX = (omega arith, omega arith)
  some Target.IndirectIndexedY = (omega arith, omega arith)

  abbrev last_place : Footprint → ℕ
  last_place f = slice_index f.places (f.count - 1)

  last : (t : Target) → last_place (read t) ≡ target_of t r m
  unfolding read_to target_of
  last Target.ZeroPage = refl
  last Target.ZeroPageX = refl
  last Target.ZeroPageY = refl
  last Target.Absolute = refl
  last Target.AbsoluteX = refl
  last Target.AbsoluteY = refl
  last Target.IndexedIndirectX = refl
  last Target.IndirectIndexedY = refl

  module _ (t : Target) {f : Footprint} (e : f ≡ read t) where
    pub some_read : (0 < f.count) × (f.count ≤ 5)
    some_read = rw e (some t)

    pub last_read : last_place f ≡ target_of t r m
    last_read = ap last_place e ∙ last t
