-- The length of a repeated element, for an array that is too long to be counted out.
use Rattle.std.specs.Prelude.{ℕ, ◌≡◌, length, replicate}
use Rattle.std.proofs.Common.{sym}
use Rattle.std.proofs.lemmas.List.{length-replicate}

pub repeat_length : (n : ℕ) → n ≡ length {A = ℕ} (replicate n 0)
repeat_length n = sym (length-replicate n 0)
