-- How far a turn on numbers goes: IRQ decides it.
use Rattle.std.specs.Prelude.{ℕ, ◌≡◌, Bool, true, false, List}
use Rattle.std.proofs.Common.{ap, sym, ◌∙◌, subst}
use Rattle.manual.specs.declared.Lines.{Lines}
use Rattle.cpu.specs.Inner.Turning.{reach, fitting, going}
use Rattle.mos6502_numbers.specs.Machines.{lines_from}
use Rattle.mos6502.specs.Numbers.{RunNumbers}
use Rattle.mos6502.specs.Inner.Turns.{Turned}

-- the level that was read is that of the number
pub level : (lines : ℕ) (present : Lines) (irq : Bool) → present ≡ lines_from lines → present.irq ≡ irq → (lines_from lines).irq ≡ irq
level lines present irq same e = ap (λ (l : Lines). l.irq) (sym same) ∙ e

module _ (bound lines registers cycles : ℕ) (m : List ℕ) (present : Lines) (same : present ≡ lines_from lines) where
  reached : (irq : Bool) → present.irq ≡ irq → reach irq (fitting bound cycles) ≡ going (lines_from lines) cycles bound
  reached irq e = sym (ap (λ (i : Bool). reach i (fitting bound cycles)) (level lines present irq same e))

  -- with IRQ high it goes as far as there is room
  pub goes_high : present.irq ≡ true → (far : ℕ) → far ≡ fitting bound cycles
      → {v : RunNumbers} {m' : List ℕ} → Turned far lines registers cycles m v m'
      → Turned (going (lines_from lines) cycles bound) lines registers cycles m v m'
  goes_high e far f {v} {m'} turned = subst (λ (k : ℕ). Turned k lines registers cycles m v m') (f ∙ reached true e) turned

  -- and with IRQ low one step
  pub goes_low : present.irq ≡ false → {v : RunNumbers} {m' : List ℕ} → Turned 1 lines registers cycles m v m'
      → Turned (going (lines_from lines) cycles bound) lines registers cycles m v m'
  goes_low e {v} {m'} turned = subst (λ (k : ℕ). Turned k lines registers cycles m v m') (reached false e) turned
