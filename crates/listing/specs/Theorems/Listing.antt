-- What a listing shows: every byte of its stretch once and in order, each line at the address of its bytes; and examples. How
-- much room it takes is in proofs/Room.antt.
use Prim.Native.Nat.{ℕ, zero, suc, ◌+◌, ◌-◌, ◌≤◌}
use Rattle.std.specs.Prelude.{◌≡◌, Bool, true, false, cond, leb, get_or, length, replicate, Option, None}
use Rattle.instruction.specs.declared.Entry.{Entry}
use Rattle.std.proofs.Math.Path.{refl, ap}
use Rattle.std.proofs.Common.{sym, ◌∙◌, subst}
use mathlib.Core.List.{List, [], ◌∷◌, ◌++◌}
use native.Mathlib.Omega.{arith}
use Rattle.std.proofs.lemmas.List.Edits.{sets}
use borrow.Author.Tests.{leb-true}
use Rattle.instruction.specs.Opcodes.{rows, decoded}
use Rattle.manual.specs.Words.{address_of, signed, around}
use Rattle.manual.specs.Branching.{branch_target}
use Rattle.manual.specs.Lemmas.Programs.{either as by_test}
use Rattle.laws.specs.Characters.{characters}
use Rattle.text_writing.specs.Numerals.{digit}
use Rattle.opcode_table.specs.Names.{mnemonic}
use Rattle.listing_operands.specs.Operands.{written, operand}
use Rattle.listing.specs.Lines.{Line, bytes_from, size, line_of, unknown, lines}
use Rattle.listing.specs.Listing.{listing}
use Rattle.listing.specs.Lemmas.Lines.{size_some}
use Rattle.listing.specs.Lemmas.Lengths.{bytes_length}

-- the bytes that some lines show
abbrev pub bytes_of : List Line → List ℕ
bytes_of [] = []
bytes_of (l ∷ ls) = l.bytes ++ bytes_of ls

either : (b : Bool) (s t : List Line) (bs : List ℕ) → (b ≡ true → bytes_of s ≡ bs) → bytes_of t ≡ bs → bytes_of (cond b s t) ≡ bs
either true s t bs p q = p refl
either false s t bs p q = q

module _ (m : List ℕ) where
  same : {a b n k : ℕ} → a ≡ b → n ≡ k → bytes_from m a n ≡ bytes_from m b k
  same {a} {b} {n} {k} e f = ap (λ (x : ℕ). bytes_from m x n) e ∙ ap (λ (x : ℕ). bytes_from m b x) f

  split : (at n k : ℕ) → bytes_from m at n ++ bytes_from m (at + n) k ≡ bytes_from m at (n + k)
  split at zero k = same {a = at + 0} {b = at} {n = k} {k = 0 + k} (omega arith) (omega arith)
  split at (suc n) k =
      ap (λ (bs : List ℕ). get_or m (address_of at) 0 ∷ bytes_from m (suc at) n ++ bs) (same {a = at + suc n} {b = suc at + n} {n = k} {k = k} (omega arith) refl)
      ∙ ap (λ (bs : List ℕ). get_or m (address_of at) 0 ∷ bs) (split (suc at) n k)
      ∙ same {a = at} {b = at} {n = suc (n + k)} {k = suc n + k} refl (omega arith)

  unknown_bytes : (at n : ℕ) → bytes_of (unknown m at n) ≡ bytes_from m at n
  unknown_bytes at zero = refl
  unknown_bytes at (suc n) = ap (λ (bs : List ℕ). get_or m (address_of at) 0 ∷ bs) (unknown_bytes (suc at) n)

  shown : (at n covered : ℕ) → covered ≤ n → bytes_of (lines m at n covered) ≡ bytes_from m (at + covered) (n - covered)
  unfolding lines
  shown at zero covered h = same {a = at} {b = at + covered} {n = 0} {k = 0 - covered} (omega arith) (omega arith)
  shown at (suc n) (suc covered) h =
      shown (suc at) n covered (omega arith)
      ∙ same {a = suc at + covered} {b = at + suc covered} {n = n - covered} {k = suc n - suc covered} (omega arith) (omega arith)
  shown at (suc n) zero h =
      let d = decoded (get_or m at 0) in
      let some = size_some d in
      either (leb (size d) (suc n)) (line_of m at d ∷ lines m (suc at) n (size d - 1)) (unknown m at (suc n)) (bytes_from m (at + 0) (suc n - 0))
      (λ b.
      let fits = leb-true (size d) (suc n) b in
      ap (λ (bs : List ℕ). bytes_from m at (size d) ++ bs)
      (shown (suc at) n (size d - 1) (omega arith)
      ∙ same {a = suc at + (size d - 1)} {b = at + size d} {n = n - (size d - 1)} {k = suc n - size d} (omega arith) (omega arith))
      ∙ split at (size d) (suc n - size d)
      ∙ same {a = at} {b = at + 0} {n = size d + (suc n - size d)} {k = suc n - 0} (omega arith) (omega arith))
      (unknown_bytes at (suc n) ∙ same {a = at} {b = at + 0} {n = suc n} {k = suc n - 0} (omega arith) (omega arith))

  -- Every byte of the stretch appears once and in order.
  pub every_byte : (at n : ℕ) → bytes_of (lines m at n 0) ≡ bytes_from m at n
  every_byte at n = shown at n 0 (omega arith) ∙ same {a = at + 0} {b = at} {n = n - 0} {k = n} (omega arith) (omega arith)

  -- some lines that begin at an address: each stands at the address of its bytes, and the next one after them
  abbrev pub LinesAt : ℕ → List Line → Type 0
  LinesAt at [] = Unit {0}
  LinesAt at (l ∷ ls) = (l.address ≡ at) × (l.bytes ≡ bytes_from m at (length l.bytes)) × LinesAt (at + length l.bytes) ls

  -- the line of what stands at an address, and lines after it
  line_at : (at : ℕ) (d : Option Entry) (ls : List Line) → LinesAt (at + size d) ls → LinesAt at (line_of m at d ∷ ls)
  line_at at d ls h =
      let count = bytes_length m at (size d) in
      (refl, ap (bytes_from m at) (sym count), subst (λ (n : ℕ). LinesAt (at + n) ls) (sym count) h)

  unknown_at : (at n : ℕ) → LinesAt at (unknown m at n)
  unknown_at at zero = tt
  unknown_at at (suc n) = let next : suc at ≡ at + 1 = omega arith in line_at at None (unknown m (suc at) n) (subst (λ (a : ℕ). LinesAt a (unknown m (suc at) n)) next (unknown_at (suc at) n))

  placed : (at n covered : ℕ) → LinesAt (at + covered) (lines m at n covered)
  unfolding lines
  placed at zero covered = tt
  placed at (suc n) (suc covered) = let next : suc at + covered ≡ at + suc covered = omega arith in rw (← next) (placed (suc at) n covered)
  placed at (suc n) zero =
      let d = decoded (get_or m at 0) in
      let here : at + 0 ≡ at = omega arith in
      let next : suc at + (size d - 1) ≡ at + size d = omega (arith, size_some d) in
      rw here
      (by_test (LinesAt at) (leb (size d) (suc n)) (line_of m at d ∷ lines m (suc at) n (size d - 1)) (unknown m at (suc n))
      (line_at at d (lines m (suc at) n (size d - 1)) (subst (λ (a : ℕ). LinesAt a (lines m (suc at) n (size d - 1))) next (placed (suc at) n (size d - 1))))
      (unknown_at at (suc n)))

  -- Each line stands at the address of its bytes.
  pub line_addresses : (at n : ℕ) → LinesAt at (lines m at n 0)
  line_addresses at n = let here : at + 0 ≡ at = omega arith in rw here at (placed at n 0)

abbrev memory : ℕ → List ℕ → List ℕ
memory at bytes = sets (replicate 65536 0) at bytes

-- The rules' example, a branch, the accumulator form, a byte that is no opcode, and an instruction that the stretch cuts off.
pub example_listing : listing (memory 0x10FB (0xA9 ∷ 0x05 ∷ 0xD0 ∷ 0x01 ∷ 0x0A ∷ 0x02 ∷ 0x6C ∷ 0xEA ∷ [])) 0x10FB 0x1102
    ≡ characters "10FB A9 05 LDA #$05\n10FD D0 01 BNE $1100\n10FF 0A ASL A\n1100 02 ???\n1101 6C ???\n1102 EA ???\n"
unfolding listing lines mnemonic written operand branch_target signed around digit rows decoded
example_listing = refl
