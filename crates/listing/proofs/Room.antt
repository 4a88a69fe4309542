-- How much room a listing takes.
use Prim.Native.Nat.{ℕ, zero, suc, ◌+◌, ◌-◌, ◌*◌, ◌≤◌, ◌<◌}
use Rattle.std.specs.Prelude.{◌≡◌, List, ◌++◌, get_or, length, Option}
use Rattle.instruction.specs.declared.Entry.{Entry}
use Rattle.std.proofs.Math.Path.{refl, ap}
use native.Mathlib.Omega.{arith}
use Rattle.std.proofs.Math.ListN.{length-append}
use borrow.Author.Tests.{le-leb, eq-eqb, le-ltb}
use Rattle.instruction.specs.Opcodes.{rows, decoded}
use Rattle.laws.specs.Answers.{not_refused}
use Rattle.manual.specs.Stepping.{full_memory}
use Rattle.opcode_table.specs.Names.{mnemonic}
use Rattle.listing_operands.specs.Operands.{written, operand}
use Rattle.listing.specs.Lines.{size, line_of, lines, text, texts, per_byte}
use Rattle.listing.specs.Listing.{listing, longest_listing, listing_into}
use Rattle.listing.proofs.Lengths.{listing_share}

-- A buffer of 14 characters for each byte of the stretch is always enough, and the listing of a memory full of `ASL A` fills it.
pub list_room : (m : List ℕ) (first last : ℕ) (buffer : List ℕ) → length m ≡ full_memory → first ≤ last
    → per_byte * suc (last - first) ≤ length buffer
    → (listing_into m first last buffer).answer ≡ not_refused
unfolding listing_into
list_room m first last buffer full ordered room =
    let fits : length (listing m first last) ≤ length buffer = omega (arith, listing_share m first last) in
    rw (eq-eqb (length m) full_memory full, le-ltb last first ordered, le-ltb (length buffer) (length (listing m first last)) fits)

accumulator_size : size (decoded 0x0A) ≡ 1
unfolding rows decoded
accumulator_size = refl

accumulator_length : (m : List ℕ) (at : ℕ) → length (text (line_of m at (decoded 0x0A))) ≡ per_byte
unfolding mnemonic written operand rows decoded
accumulator_length m at = refl

module _ (m : List ℕ) where
  one_byte : (at n : ℕ) (d : Option Entry) → decoded (get_or m at 0) ≡ d → size d ≡ 1
      → texts (lines m at (suc n) 0) ≡ text (line_of m at d) ++ texts (lines m (suc at) n 0)
  unfolding lines
  one_byte at n d e f = rw (e, f, le-leb 1 (suc n) (omega arith))

  accumulators : ((at : ℕ) → at < 65536 → get_or m at 0 ≡ 0x0A) → (at n : ℕ) → at + n ≤ 65536
      → length (texts (lines m at n 0)) ≡ per_byte * n
  unfolding lines
  accumulators all at zero h = refl
  accumulators all at (suc n) h =
      rw (one_byte at n (decoded 0x0A) (ap decoded (all at (omega arith))) accumulator_size)
      (omega (
        arith,
        length-append (text (line_of m at (decoded 0x0A))) (texts (lines m (suc at) n 0)),
        accumulator_length m at,
        accumulators all (suc at) n (omega arith),
      ))

  pub longest_listing_lem : ((at : ℕ) → at < 65536 → get_or m at 0 ≡ 0x0A) → length (listing m 0 65535) ≡ longest_listing
  unfolding listing
  longest_listing_lem all = accumulators all 0 65536 (omega arith)
