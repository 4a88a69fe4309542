-- How long a listing can be: 14 characters for each byte of a line, and of a stretch.
use Prim.Native.Nat.{ℕ, zero, suc, ◌-◌, ◌*◌, ◌≤◌, ◌<◌}
use Rattle.std.specs.Prelude.{◌≡◌, refl, Bool, true, false, cond, List, ◌∷◌, leb, length, get_or, Option, None}
use Rattle.instruction.specs.declared.Entry.{Entry}
use native.Mathlib.Omega.{arith}
use Rattle.std.proofs.Math.ListN.{length-append}
use borrow.Author.Tests.{leb-true}
use Rattle.instruction.specs.Opcodes.{decoded}
use Rattle.listing.specs.Lines.{Line, bytes_from, size, line_of, unknown, lines, text, texts, per_byte}
use Rattle.listing.specs.Listing.{listing, longest_listing}
use Rattle.listing.specs.Lemmas.Lines.{size_some}
use Rattle.listing.specs.Lemmas.Lengths.{name_length, operand_of_share, field_length, bytes_length}

module _ (m : List ℕ) where
  -- 14 characters for each byte of a line, and of a stretch
  line_share : (at : ℕ) (d : Option Entry) → length (text (line_of m at d)) ≤ per_byte * size d
  line_share at d =
      simp length-append
      (omega (arith, field_length (bytes_from m at (size d)), bytes_length m at (size d), size_some d, name_length d, operand_of_share m at d))

  unknown_length : (at n : ℕ) → length (texts (unknown m at n)) ≤ per_byte * n
  unknown_length at zero = omega arith
  unknown_length at (suc n) =
      omega (
        arith,
        length-append (text (line_of m at None)) (texts (unknown m (suc at) n)),
        line_share at None,
        unknown_length (suc at) n,
      )

  either_length : (b : Bool) (n : ℕ) (s t : List Line) → (b ≡ true → length (texts s) ≤ n) → length (texts t) ≤ n
      → length (texts (cond b s t)) ≤ n
  either_length true n s t p q = p refl
  either_length false n s t p q = q

  pub lines_length : (at n covered : ℕ) → length (texts (lines m at n covered)) ≤ per_byte * (n - covered)
  unfolding lines
  lines_length at zero covered = omega arith
  lines_length at (suc n) (suc covered) = let rest = lines_length (suc at) n covered in omega arith
  lines_length at (suc n) zero =
      let d = decoded (get_or m at 0) in
      let rest = lines m (suc at) n (size d - 1) in
      either_length (leb (size d) (suc n)) (per_byte * (suc n - 0)) (line_of m at d ∷ rest) (unknown m at (suc n))
      (λ b.
      omega (
        arith,
        leb-true (size d) (suc n) b,
        size_some d,
        length-append (text (line_of m at d)) (texts rest),
        line_share at d,
        lines_length (suc at) n (size d - 1),
      ))
      (omega (arith, unknown_length at (suc n)))

module _ (m : List ℕ) (first last : ℕ) where
  -- how long it can be, by its stretch and by that of the whole memory, so that its end is no largest `usize`
  pub listing_share : length (listing m first last) ≤ per_byte * suc (last - first)
  unfolding listing
  listing_share = omega (arith, lines_length m first (suc (last - first)) 0)

  pub listing_length : last < 65536 → length (listing m first last) ≤ longest_listing
  listing_length h = omega (arith, listing_share)
