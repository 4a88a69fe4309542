-- Text that is written into a lent buffer. `sets l at t` of `lib.Seq` is the list l with the characters of t stored from index `at` on;
-- what would stand past the end of l is dropped. So a writer needs no room: it answers where its text ends, whether or not all of it
-- fitted, and only at the largest `usize` does that place stop.
use Rattle.std.specs.Prelude.{◌≡◌, List, ℕ, ◌+◌, ◌≤◌, min, length}
use Rattle.std.proofs.lemmas.List.Edits.{sets}
use Rattle.text_writing.specs.declared.Writer.{Writer}

abbrev pub most : ℕ
most = 18446744073709551615

-- l' is l with the text t at `at` and no other byte changed, and `next` is the place after t
pub record Wrote (l : List ℕ) (at : ℕ) (t l' : List ℕ) (next : ℕ) : Type 0 where
  pub fits : length l ≤ most
  pub bytes : l' ≡ sets l at t
  pub ends : next ≡ min (at + length t) most

-- a writer goes on in the same buffer, after the text t
pub record Writes (w : Writer) (t : List ℕ) (w' : Writer) : Type 0 where
  pub same : w'.out.ghost_name ≡ w.out.ghost_name
  pub wrote : Wrote w.out.now w.at t w'.out.now w'.at
