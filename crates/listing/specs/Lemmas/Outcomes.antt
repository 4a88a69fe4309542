-- Laws of what a listing gives, one for each way out of the code.
use Prim.Native.Nat.{ℕ, suc, ◌+◌, ◌-◌, ◌≤◌, ◌<◌}
use Rattle.std.specs.Prelude.{◌≡◌, List, length}
use native.Mathlib.Omega.{arith}
use borrow.Author.Tests.{eq-eqb, ne_eqb, lt-ltb, le-ltb}
use Rattle.laws.specs.Answers.{memory_not_full, first_above_last}
use Rattle.manual.specs.Stepping.{full_memory}
use Rattle.text_writing.specs.Written.{Wrote}
use Rattle.text_writing.specs.Delivered.{Delivered, refused, delivered}
use Rattle.listing.specs.Lines.{lines, texts}
use Rattle.listing.specs.Listing.{listing, listing_into}

module _ (m : List ℕ) (first last : ℕ) where
  -- the text as the code writes it, up to the address after the last
  pub to_the_last : {l l' : List ℕ} {at next : ℕ} → first ≤ last → Wrote l at (texts (lines m first (last + 1 - first) 0)) l' next
      → Wrote l at (listing m first last) l' next
  unfolding listing
  to_the_last h w =
      let count : last + 1 - first ≡ suc (last - first) = omega arith in
      rw count at w

module _ (m : List ℕ) (first last : ℕ) (buffer : List ℕ) where
  pub not_full : (length m ≡ full_memory → ⊥) → refused memory_not_full buffer ≡ listing_into m first last buffer
  unfolding listing_into
  not_full h = rw (ne_eqb (length m) full_memory h)

  module _ (f : length m ≡ full_memory) where
    pub backwards : last < first → refused first_above_last buffer ≡ listing_into m first last buffer
    unfolding listing_into
    backwards h = rw (eq-eqb (length m) full_memory f, lt-ltb last first h)

    pub in_order_lem : {d : Delivered} → first ≤ last → d ≡ delivered (listing m first last) buffer → d ≡ listing_into m first last buffer
    unfolding listing_into
    in_order_lem h e = rw (eq-eqb (length m) full_memory f, le-ltb last first h) e
