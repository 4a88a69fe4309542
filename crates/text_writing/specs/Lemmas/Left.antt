-- What is left to write, for a writer that goes round a loop.
use Rattle.std.specs.Prelude.{◌≡◌, List, [], ◌++◌, ℕ, ◌≤◌, length}
use Rattle.text_writing.specs.Written.{most, Wrote}
use Rattle.text_writing.specs.Lemmas.Texts.{then, nothing}

-- whoever writes t at n into l has, all in all, written t₀ at i into l₀
abbrev pub Left : List ℕ → ℕ → List ℕ → List ℕ → ℕ → List ℕ → Type 0
Left l n t l₀ i t₀ = (k : List ℕ) (j : ℕ) → Wrote l n t k j → Wrote l₀ i t₀ k j

-- A part of it is written.
pub less_left : {l m l₀ t s r t₀ : List ℕ} {n j i : ℕ} → Left l n t l₀ i t₀ → t ≡ s ++ r → Wrote l n s m j → Left m j r l₀ i t₀
less_left h e w k j v = h k j (rw e (then w v))

-- Nothing is left.
pub none_left : {l l₀ t t₀ : List ℕ} {n i : ℕ} → Left l n t l₀ i t₀ → t ≡ [] → length l ≤ most → n ≤ most → Wrote l₀ i t₀ l n
none_left {l} {n = n} h e f g = h l n (rw e (nothing f g))
