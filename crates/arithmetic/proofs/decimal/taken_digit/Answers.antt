-- The test for a borrow picks what is added, and the case of the definition.
use Rattle.std.proofs.Common.{◌≡◌, ℕ, ◌+◌, ◌-◌, ◌%◌, ◌<◌, ◌≤◌, arith}
use borrow.Author.Tests.{lt-ltb, le-ltb}
use Rattle.manual.specs.Decimal.{difference_digit}
use Rattle.arithmetic.proofs.decimal.taken_digit.Goals as goal
use Rattle.arithmetic.proofs.decimal.taken_digit.Goals.{then-over, else-over}

sixteen_more : (x y : ℕ) → y ≤ x → x < 16 → (x + 16 - y) % 16 ≡ x - y
sixteen_more x y h l = omega arith

pub returns : goal.returns
unfolding difference_digit
returns c =
    elim c.if-over.branch [
      | then-over w ↦ rw (w.lift-is, lt-ltb c.args.x c.args.y w.if-over.true)
      | else-over w ↦ rw (w.lift-is, le-ltb c.args.x c.args.y w.if-over.false, sixteen_more c.args.x c.args.y w.if-over.false c.requires.0)
    ]
