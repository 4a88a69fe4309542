-- A cell that holds the first failure: 0 before there is one, and then its status.
use Rattle.std.specs.Prelude.{ℕ, ◌≡◌}

-- what had failed before is still what it holds
abbrev pub FailureStays : ℕ → ℕ → Type 0
FailureStays before after = (before ≡ 0 → ⊥) → after ≡ before
