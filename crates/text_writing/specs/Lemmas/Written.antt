-- Laws of Written.antt.
use Rattle.std.specs.Prelude.{◌≡◌, List, ℕ}
use Rattle.std.proofs.Common.{sym, ◌∙◌}
use Rattle.text_writing.specs.Written.{Wrote}

-- The promise admits one result only: one buffer, and one place.
pub one_text : {l t m₁ m₂ : List ℕ} {at n₁ n₂ : ℕ} → Wrote l at t m₁ n₁ → Wrote l at t m₂ n₂ → (m₁ ≡ m₂) × (n₁ ≡ n₂)
one_text p q = (p.bytes ∙ sym q.bytes, p.ends ∙ sym q.ends)
