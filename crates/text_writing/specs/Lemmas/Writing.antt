-- Laws of writers, for the proofs of those who write by them.
use Rattle.std.specs.Prelude.{◌≡◌, refl, List, [], ◌∷◌, ◌++◌, ℕ, ◌+◌, ◌≤◌, ◌<◌, length, take, get_or}
use Rattle.std.proofs.Common.{◌∙◌}
use Rattle.text_writing.specs.Written.{most, Writes}
use Rattle.text_writing.specs.declared.Writer.{Writer}
use Rattle.text_writing.specs.Lemmas.Texts.{then, within, nothing, more as more_wrote, whole as whole_wrote}

-- One text after another is the two as one.
pub after : {w v u : Writer} {s t : List ℕ} → Writes w s v → Writes v t u → Writes w (s ++ t) u
after p q = record { same = q.same ∙ p.same; wrote = then p.wrote q.wrote }

-- Where a short text ends.
pub ends_within : {w v : Writer} {t : List ℕ} {n : ℕ} → Writes w t v → length t ≤ n → v.at ≤ w.at + n
ends_within p h = within p.wrote h

-- No text is written yet.
pub none_written : {w : Writer} → length w.out.now ≤ most → w.at ≤ most → Writes w [] w
none_written f h = record { same = refl; wrote = nothing f h }

-- One more character of a text that is written one by one, and the whole of it.
pub one_more : (t : List ℕ) (i : ℕ) {w v u : Writer} → i < length t
    → Writes w (take i t) v → Writes v (get_or t i 0 ∷ []) u → Writes w (take (i + 1) t) u
one_more t i h p q = record { same = q.same ∙ p.same; wrote = more_wrote t i h p.wrote q.wrote }

pub whole_text : (t : List ℕ) (i : ℕ) {w v : Writer} → length t ≤ i → Writes w (take i t) v → Writes w t v
whole_text t i h p = record { same = p.same; wrote = whole_wrote t i h p.wrote }

-- What is left to write, for a loop whose turns write texts of different lengths: whoever writes t by w has, all in all, written t₀ by w₀.
abbrev pub Remains : Writer → List ℕ → Writer → List ℕ → Type 0
Remains w t w₀ t₀ = (v : Writer) → Writes w t v → Writes w₀ t₀ v

-- A part of it is written, and nothing remains.
pub less_remains : {w w₀ u : Writer} {t s r t₀ : List ℕ} → Remains w t w₀ t₀ → t ≡ s ++ r → Writes w s u → Remains u r w₀ t₀
less_remains h e p v q = h v (rw e (after p q))

pub none_remains : {w w₀ : Writer} {t t₀ : List ℕ} → Remains w t w₀ t₀ → t ≡ [] → length w.out.now ≤ most → w.at ≤ most → Writes w₀ t₀ w
none_remains {w} h e f g = h w (rw e (none_written f g))
