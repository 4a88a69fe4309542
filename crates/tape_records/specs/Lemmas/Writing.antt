-- What is left to write, for a writer that goes round a loop.
use Rattle.std.specs.Prelude.{◌≡◌, List, ◌++◌, ℕ}
use Rattle.text_writing.specs.Written.{Wrote, Writes}
use Rattle.text_writing.specs.declared.Writer.{Writer}
use Rattle.text_writing.specs.Lemmas.Writing.{after}

-- whoever goes on with t from v has, all in all, written t₀ from w
abbrev pub Left : Writer → List ℕ → Writer → List ℕ → Type 0
Left v t w t₀ = (u : Writer) → Writes v t u → Writes w t₀ u

-- A part of it is written.
pub less_left : {v v' w : Writer} {t s r t₀ : List ℕ} → Left v t w t₀ → t ≡ s ++ r → Writes v s v' → Left v' r w t₀
less_left h e p u q = h u (rw e (after p q))

-- What a writer leaves that began at the start of a buffer.
pub from_start : {w w' : Writer} {t l l' : List ℕ} {size : ℕ} → w.out.now ≡ l → w.at ≡ 0 → Writes w t w' → size ≡ w'.at → l' ≡ w'.out.now → Wrote l 0 t l' size
from_start same begins p sized left = rw (same, begins, ← sized, ← left) at p.wrote
